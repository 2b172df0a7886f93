-- `printer::store_all` meets its contract: the part that is copied is stored. Assumes nothing.
use Rattle.std.proofs.Common.{arith, ◌+◌, ◌-◌, length}
use Rattle.lines.proofs.Cutting.{copied}
use Rattle.printer.proofs.store_all.Goals as goal

pub returns : goal.returns
returns c =
    let a = c.args in
    let text = a.text.now in
    record {
      leaves =
          rw (
            c.copy_from_slice.ensures.after,
            copied a.room.now text a.at (a.at + length text - a.at) (omega arith) (omega (arith, c.requires)),
          );
      short = omega arith;
    }

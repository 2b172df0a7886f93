-- Jobs counted from the answers alone: each release that is taken is answered so, and with each
-- taken tick go "the job that left and how, and the number discarded". The promises count with
-- these.
use Rattle.std.specs.Prelude.{List, [], ◌∷◌, ℕ, ◌+◌}
use Rattle.events.specs.declared.Left.{Left}
use Rattle.events.specs.declared.Left.TheVariants.{Nobody, Done, Cut}
use Rattle.events.specs.declared.Answer.{Answer}
use Rattle.events.specs.declared.Answer.TheVariants.{Released, Ticked, No}
use Rattle.events.specs.declared.TickAnswer.{TickAnswer}
use Rattle.events.specs.Answers.{one, charged, finished_by, cut_by}

-- one answer after the other
unfoldable pub over_all : (Answer → ℕ) → List Answer → ℕ
over_all f [] = 0
over_all f (a ∷ rest) = f a + over_all f rest

-- what a taken tick counts, by the job that left
abbrev pub by_left : (Left → ℕ) → Answer → ℕ
by_left f (Released j) = 0
by_left f (Ticked a) = f a.left
by_left f (No why) = 0

-- "A release adds one job at the back of its task's queue": jobs released, of any task and of task
-- k
abbrev pub release : Answer → ℕ
release (Released j) = 1
release (Ticked a) = 0
release (No why) = 0

abbrev pub release_by : ℕ → Answer → ℕ
release_by k (Released j) = one j k
release_by k (Ticked a) = 0
release_by k (No why) = 0

abbrev pub released_in : List Answer → ℕ
released_in = over_all release

abbrev pub released_of : ℕ → List Answer → ℕ
released_of k = over_all (release_by k)

-- "Mark 1: that job leaves, finished."
abbrev pub any_finished : Left → ℕ
any_finished Nobody = 0
any_finished (Done j) = 1
any_finished (Cut j) = 0

abbrev pub finished_in : List Answer → ℕ
finished_in = over_all (by_left any_finished)

abbrev pub finished_of : ℕ → List Answer → ℕ
finished_of k = over_all (by_left (λ l. finished_by l k))

-- "in D1 .. else the job is cut; in D2 the job is cut"
abbrev pub any_cut : Left → ℕ
any_cut Nobody = 0
any_cut (Done j) = 0
any_cut (Cut j) = 1

abbrev pub cut_in : List Answer → ℕ
cut_in = over_all (by_left any_cut)

abbrev pub cut_of : ℕ → List Answer → ℕ
cut_of k = over_all (by_left (λ l. cut_by l k))

-- "On entering D2 every waiting LO job is discarded and counted."
abbrev pub discarded : Answer → ℕ
discarded (Released j) = 0
discarded (Ticked a) = a.discarded
discarded (No why) = 0

abbrev pub discarded_in : List Answer → ℕ
discarded_in = over_all discarded

-- a number that counts only where a tick was taken
abbrev pub if_ticked : Answer → ℕ → ℕ
if_ticked (Released j) n = 0
if_ticked (Ticked a) n = n
if_ticked (No why) n = 0

-- the answers to the ticks that were taken, in order
unfoldable pub ticks_in : List Answer → List TickAnswer
ticks_in [] = []
ticks_in (Released j ∷ rest) = ticks_in rest
ticks_in (Ticked a ∷ rest) = a ∷ ticks_in rest
ticks_in (No why ∷ rest) = ticks_in rest

-- how many of some ticks were given to server i
unfoldable pub given_to : ℕ → List TickAnswer → ℕ
given_to i [] = 0
given_to i (a ∷ rest) = charged a.turn i + given_to i rest

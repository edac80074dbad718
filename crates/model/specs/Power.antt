-- What a store's power is, and what a commit and a restart make of it and of the row that was being written.
-- The rule is the same for every store; a store brings its cost, its turning point and what its next restart owes.
-- Assumes nothing.
use Rattle.std.specs.Prelude.{ℕ, ◌+◌, ◌-◌, Bool, cond, ◌&&◌, ◌||◌, ◌==◌, nat_le}
use Rattle.model.specs.declared.answer.Answer.{Answer}
use Rattle.model.specs.declared.answer.Answer.TheVariants.{Done, Cut}
use Rattle.model.specs.declared.answer.CutPoint.{CutPoint}

pub record Power : Type 0 where
  -- off means that nothing works until the next restart
  pub on : Bool
  -- the writes that power will last
  pub left : ℕ
  -- what the write that power fails at leaves: 0 the old page, 1 the new one, 2 junk
  pub tear : ℕ
  -- the writes that the next restart needs
  pub owed : ℕ

-- a commit of so many writes is done, or is cut at a point that the store names
abbrev pub commit_answer : ℕ → CutPoint → Power → Answer
commit_answer cost point p = cond (nat_le cost p.left) Done (Cut point)

-- the row is new if power lasted to the turning point, or failed at just that write and the page was new
abbrev pub renewed : ℕ → Power → Bool
renewed turn p = nat_le turn p.left || (p.left + 1 == turn && p.tear == 1)

-- power after a commit; a cut leaves it off with nothing left
abbrev pub spent : ℕ → ℕ → Power → Power
spent cost owed p = record { on = nat_le cost p.left; left = p.left - cost; tear = p.tear; owed = owed }

-- a restart for which power lasts n writes is done, or is cut
abbrev pub restart_answer : ℕ → CutPoint → Power → Answer
restart_answer n point p = cond (nat_le p.owed n) Done (Cut point)

-- power after a restart
abbrev pub restarted : ℕ → ℕ → ℕ → Power → Power
restarted n tear owed p = record { on = nat_le p.owed n; left = n - p.owed; tear = tear; owed = owed }

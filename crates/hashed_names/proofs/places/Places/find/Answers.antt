use Rattle.std.proofs.Common.{sym, ◌∙◌}
use Rattle.names.proofs.Listing.{equal_same}
use Rattle.hashed_names.proofs.Chains.{long, free_here, stored_here, passed_more, all_passed}
use Rattle.hashed_names.proofs.places.Places.find.Goals as goal

pub returns-in_default : goal.returns-in_default
returns-in_default c =
    free_here _ _ _ _ _ (long c.args.self.now) c.home_of-home.ensures _ c.index.ensures c.loop-step.invariant c.in_default.is

pub returns-then-eq : goal.returns-then-eq
returns-then-eq c =
    stored_here _ _ _ _ _ (long c.args.self.now) c.home_of-home.ensures _ c.index.ensures _ c.in-Some.is (equal_same c.in-Some.other c.args.taken ∙ sym c.if-eq.ensures)

pub loop-step-preserved : goal.loop-step-preserved
loop-step-preserved c =
    passed_more _ _ _ _ _ (long c.args.self.now) c.home_of-home.ensures _ c.index.ensures _ c.loop-step.invariant c.in-Some.is (equal_same c.in-Some.other c.args.taken ∙ sym c.if-eq.ensures)

pub returns : goal.returns
returns c =
    all_passed _ _ _ _ c.loop-step-test.false c.loop-step.invariant (long c.args.self.now)

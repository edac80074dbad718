-- The copy is refreshed with the bytes that were committed.
use Rattle.std.proofs.Common.{refl, ap}
use Rattle.std.proofs.lemmas.Bool.{both_ways}
use Rattle.model.specs.Answers.{refusal}
use Rattle.cache.specs.Copies.{kept}
use Rattle.cache.proofs.Same.{same}
use Rattle.cache.proofs.Refreshing.{kept_holds, held}
use Rattle.cache.proofs.cached.CachedStore.commit.Goals as goal

pub returns-in-Done-Some : goal.returns-in-Done-Some
returns-in-Done-Some g c =
    let below = g.S.Store.model in
    let s = below c.args.self.now.below in
    let t = below c.commit-answer.new.self in
    let places = c.args.self.now.copies.places in
    let four = c.args.self.now.copies.four in
    let row = c.args.row in
    let bytes = c.args.bytes.now in
    let done = c.in-Done-Some.is-0 in
    let is = ap (kept places row) c.in-Done-Some.ensures.0 in
    record {
      commits = c.commit-answer.ensures.commits;
      home_stays = c.commit-answer.ensures.home_stays;
      refusal_changes_nothing = λ r. absurd (both_ways (refusal c.commit-answer.result) (ap refusal done) r);
      committed_is_at_hand = λ d. held row (cc) (kept_holds places row bytes four);
    }

pub returns-2-clause-refusal_changes_nothing : goal.returns-2-clause-refusal_changes_nothing
returns-2-clause-refusal_changes_nothing g c = λ r. same _ _ (c.commit-answer.ensures.refusal_changes_nothing r) refl

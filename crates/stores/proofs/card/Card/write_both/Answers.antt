-- The first write was done exactly if power lasted for it.
use Rattle.std.proofs.Common.{sym, ap, ◌∙◌}
use Rattle.std.proofs.lemmas.Bool.{cond-true, cond-false}
use Rattle.stores.specs.Cards.{medium, write_answer, written}
use Rattle.stores.proofs.Writing.{lasts_if_done, ends_if_not_done}
use Rattle.stores.proofs.card.Card.write_both.Goals as goal

pub returns-in-Done : goal.returns-in-Done
returns-in-Done c =
    let on = lasts_if_done (medium c.args.self.now) c.args.row c.args.first (sym c.in-Done.ensures.answer) in
    record {
      answer = c.write-in-Done.ensures.answer ∙ ap (λ m. write_answer m c.args.row c.args.second) c.write.ensures.card ∙ sym (cond-true _ _ _ on);
      card = c.write-in-Done.ensures.card ∙ ap (λ m. written m c.args.second c.args.more.now) c.write.ensures.card ∙ sym (cond-true _ _ _ on);
      node_stays = c.write-in-Done.ensures.node_stays ∙ c.write.ensures.node_stays;
    }

pub returns-in_default : goal.returns-in_default
returns-in_default c =
    let off = ends_if_not_done (medium c.args.self.now) c.args.row c.args.first (λ e. c.in_default.not-Done (c.write.ensures.answer ∙ e)) in
    record {
      answer = c.write.ensures.answer ∙ sym (cond-false _ _ _ off);
      card = c.write.ensures.card ∙ sym (cond-false _ _ _ off);
      node_stays = c.write.ensures.node_stays;
    }

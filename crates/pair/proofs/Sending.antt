-- What a send comes to, by the queue. Assumes nothing.
use Rattle.std.proofs.Common.{◌≡◌, ℕ, ◌<◌, true, false, leb, List, [], ◌∷◌, length, Some, None, Option, sym, refl, ap, ◌∙◌, subst, inl}
use Rattle.std.proofs.lemmas.Bool.{cond-true, cond-false}
use Rattle.std.proofs.lemmas.Option.{none-some}
use Rattle.model.specs.Limits.{most_messages, stops}
use Rattle.model.specs.Row.{oldest}
use Rattle.model.specs.declared.answer.Answer.TheVariants.{Nothing, LinkFull}
use Rattle.model.specs.declared.answer.Outcome.TheVariants.{Plain}
use Rattle.model.specs.declared.record.Production.{Production}
use Rattle.law.specs.Law.{Queued}
use Rattle.law.specs.Lists.{Mem}
use Rattle.law.specs.Pair.{Pair, send_from, send_head, send_pending, send}
use Rattle.law.specs.Stops.{pending_stops}
use Rattle.law.proofs.Queues.{pending_right}
use Rattle.queue.specs.Lines.{head_of}

module _ (p : Pair) (on : p.collector.power.on ≡ true) (q : Queued p.collector) where
  -- the queue is empty exactly if nothing is pending
  none_pending : (ss : List ℕ) → pending_stops p.collector.row ≡ ss → p.collector.queue ≡ [] → ss ≡ []
  none_pending [] e empty = refl
  none_pending (s ∷ ss) e empty =
      let here : Mem s (pending_stops p.collector.row) = subst (λ xs. Mem s xs) (sym e) (inl refl) in
      let there = (pending_right p.collector.row).pending s here in
      absurd (subst (λ xs. Mem s xs) empty (q.all s there.0 there.1))

  some_pending
      : (s : ℕ) (rest ss : List ℕ)
      → p.collector.queue ≡ s ∷ rest → pending_stops p.collector.row ≡ ss
      → send_pending ss p ≡ send_pending (s ∷ []) p
  some_pending s rest [] e f =
      let here = q.pending s (subst (λ xs. Mem s xs) (sym e) (inl refl)) in
      absurd (subst (λ xs. Mem s xs) f ((pending_right p.collector.row).all s here.0 here.1))
  some_pending s rest (t ∷ ss) e f = refl

  pub send_none : head_of p.collector.queue ≡ None → send p ≡ (Plain Nothing, p)
  send_none h =
      cond-true _ _ _ on ∙ ap (λ (ss : List ℕ). send_pending ss p) (none_pending (pending_stops p.collector.row) refl (empty p.collector.queue h))
    where
      empty : (xs : List ℕ) → head_of xs ≡ None → xs ≡ []
      empty [] e = refl
      empty (x ∷ xs) e = cc

  -- a stop is at the head: full, or it sends
  by_head
      : (s : ℕ) (xs : List ℕ) → p.collector.queue ≡ xs → head_of xs ≡ Some s
      → (send_pending (pending_stops p.collector.row) p ≡ send_pending (s ∷ []) p) × (send_head xs p ≡ send_from s (oldest (p.collector.row s).pending) p)
  by_head s [] e h = absurd (none-some s h)
  by_head s (x ∷ xs) e h =
      let same : x ≡ s = cc in (
        some_pending x xs (pending_stops p.collector.row) e refl,
        ap (λ (k : ℕ). send_from k (oldest (p.collector.row k).pending) p) same,
      )

  pub send_full : (s : ℕ) → head_of p.collector.queue ≡ Some s → leb most_messages (length p.link) ≡ true → send p ≡ (Plain LinkFull, p)
  send_full s h full = cond-true _ _ _ on ∙ (by_head s p.collector.queue refl h).0 ∙ cond-true _ _ _ full

  pub send_head_lem
      : (s : ℕ) (o : Option Production)
      → head_of p.collector.queue ≡ Some s → leb most_messages (length p.link) ≡ false
      → oldest (p.collector.row s).pending ≡ o
      → send p ≡ send_from s o p
  send_head_lem s o h room e =
      let b = by_head s p.collector.queue refl h in
      cond-true _ _ _ on ∙ b.0 ∙ cond-false _ _ _ room ∙ b.1 ∙ ap (λ (x : Option Production). send_from s x p) e

  -- the head is a stop
  pub head_below : (s : ℕ) → head_of p.collector.queue ≡ Some s → s < stops
  head_below s h = below p.collector.queue refl h
    where
      below : (xs : List ℕ) → p.collector.queue ≡ xs → head_of xs ≡ Some s → s < stops
      below [] e k = absurd (none-some s k)
      below (x ∷ xs) e k =
          let same : x ≡ s = cc in
          subst (λ (i : ℕ). i < stops) same (q.pending x (subst (λ ys. Mem x ys) (sym e) (inl refl))).0

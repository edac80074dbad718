-- What the calls on the link come to. Assumes nothing.
use Rattle.std.proofs.Common.{◌≡◌, ℕ, ◌<◌, ◌≤◌, Bool, true, false, cond, ◌||◌, ltb, leb, List, [], ◌∷◌, ◌++◌, length, Some, None, Option, sym, ap, ◌∙◌, append-nil, inl, inr, arith, length-take}
use Rattle.std.proofs.lemmas.Bool.{cond-true, leb-false, lt-ltb, le-leb}
use Rattle.std.proofs.lemmas.List.Edits.{length-remove}
use Rattle.std.proofs.lemmas.Option.{none-some, slice_get_cases, slice_get_within}
use Rattle.std.specs.List.{remove, slice_get}
use Rattle.model.specs.Answers.{is_done, is_seen}
use Rattle.model.specs.Limits.{most_messages, last_time}
use Rattle.model.specs.declared.answer.Answer.{Answer}
use Rattle.model.specs.declared.record.Message.{Message}
use Rattle.model.specs.declared.record.Message.TheVariants.{Produced, Acknowledged}
use Rattle.model.specs.declared.record.Production.{Production}
use Rattle.law.specs.Node.{Free, hand_in, clear, advance}
use Rattle.law.specs.Pair.{Kits, Pair, at_collector, at_spotter, with_link, arrives, as_record, reply, deliver, deliver_of, low_watermark, pass}
use Rattle.law.proofs.Best.{low_tells}
use Rattle.link.specs.declared.Link.{Link}
use Rattle.link.specs.Carried.{carried}

-- a link carries no more messages than it may
few : (l : Link) → length (carried l) ≤ most_messages
few l = omega (arith, length-take l.messages.count l.messages.items, l.messages.within)

-- where there is no message, none lies past it
pub nothing_there : (ms : List Message) (i : ℕ) → slice_get ms i ≡ None → length ms ≤ i
nothing_there ms i e = elim (slice_get_cases ms i).1 [ inl x ↦ absurd (none-some x.0 (sym e ∙ x.2)) | inr past ↦ past.0 ]

-- a message is taken out of a link, and then another may be added
module _ (l l₁ : Link) (place : ℕ) (m : Message) (stood : slice_get (carried l) place ≡ Some m) (gone : carried l₁ ≡ cond (ltb place (length (carried l))) (remove (carried l) place) (carried l)) where
  pub taken_out : carried l₁ ≡ remove (carried l) place
  taken_out = gone ∙ cond-true _ _ _ (lt-ltb place (length (carried l)) (slice_get_within (carried l) place m stood))

  pub then_added
      : (l₂ : Link) (n : Message) → carried l₂ ≡ cond (ltb (length (carried l₁)) most_messages) (carried l₁ ++ (n ∷ [])) (carried l₁)
      → carried l₂ ≡ remove (carried l) place ++ (n ∷ [])
  then_added l₂ n messages =
      let one_less = length-remove (carried l) place (slice_get_within (carried l) place m stood) in
      let at_most = few l in
      let shorter : length (carried l₁) < most_messages = omega (arith, one_less, ap length taken_out) in
      messages ∙ cond-true _ _ _ (lt-ltb _ most_messages shorter) ∙ ap (λ (ms : List Message). ms ++ (n ∷ [])) taken_out

-- a message joins a link that is not full
pub added
    : (l l₁ : Link) (n : Message)
    → leb most_messages (length (carried l)) ≡ false
    → carried l₁ ≡ cond (ltb (length (carried l)) most_messages) (carried l ++ (n ∷ [])) (carried l)
    → carried l₁ ≡ carried l ++ (n ∷ [])
added l l₁ n free messages =
    let less = leb-false most_messages (length (carried l)) free in
    messages ∙ cond-true _ _ _ (lt-ltb (length (carried l)) most_messages less)

-- whether word goes back
pub reply_yes : (s serial : ℕ) (a : Answer) (rest : List Message) → (is_done a || is_seen a) ≡ true → rest ++ (Acknowledged s serial ∷ []) ≡ rest ++ reply s serial a
reply_yes s serial a rest e = ap (λ (b : Bool). rest ++ cond b (Acknowledged s serial ∷ []) []) (sym e)

pub reply_no : (s serial : ℕ) (a : Answer) (rest : List Message) → (is_done a || is_seen a) ≡ false → rest ≡ rest ++ reply s serial a
reply_no s serial a rest e = sym (append-nil rest) ∙ ap (λ (b : Bool). rest ++ cond b (Acknowledged s serial ∷ []) []) (sym e)

module _ (kits : Kits) (free : Free) (place : ℕ) (p : Pair) where
  pub deliver_production
      : (s : ℕ) (x : Production)
      → slice_get p.link place ≡ Some (Produced s x) → p.spotter.power.on ≡ true
      → deliver kits free place p ≡ arrives s x.serial (remove p.link place) (hand_in kits.spotter free (as_record s x) p.spotter) p
  deliver_production s x e on = ap (λ (o : Option Message). deliver_of kits free place o p) e ∙ cond-true _ _ _ on

  pub deliver_word
      : (s n : ℕ)
      → slice_get p.link place ≡ Some (Acknowledged s n) → p.collector.power.on ≡ true
      → deliver kits free place p ≡ at_collector (clear kits.collector free s n p.collector) (with_link (remove p.link place) p)
  deliver_word s n e on = ap (λ (o : Option Message). deliver_of kits free place o p) e ∙ cond-true _ _ _ on

-- a pass advances the spotter's watermark to the low one, which is never out of range
pub pass_advances
    : (kits : Kits) (free : Free) (p : Pair)
    → p.collector.power.on ≡ true → p.spotter.power.on ≡ true → p.collector.w ≤ last_time
    → pass kits free p ≡ at_spotter (advance kits.spotter free (low_watermark kits p) p.spotter) p
pass_advances kits free p con son small =
    let low = low_watermark kits p in
    let bound = (low_tells kits.collector.computation p.collector.row p.collector.w low (omega arith)).watermark in
    let ranged : leb low last_time ≡ true = le-leb low last_time (omega (arith, bound, small)) in
    cond-true _ _ _ con ∙ cond-true _ _ _ son ∙ sym (ap (λ r. at_spotter r p) (cond-true _ _ _ ranged ∙ cond-true _ _ _ son))

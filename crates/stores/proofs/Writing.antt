-- What writes leave and answer, by how long power lasts.
use Rattle.std.proofs.Common.{◌≡◌, ℕ, ◌<◌, ◌≤◌, Bool, true, false, cond, ◌&&◌, ltb, List, length, refl, ap, ◌∙◌, ⊎_elim, arith}
use Rattle.std.proofs.lemmas.List.{length-set}
use Rattle.std.proofs.lemmas.Bool.{cases_Bool, cond-true, cond-false, and_from, and_right, lt-ltb, le-ltb}
use Rattle.model.specs.Store.{judged}
use Rattle.model.specs.declared.answer.Answer.TheVariants.{Done, Cut}
use Rattle.model.specs.declared.answer.CutPoint.{CutPoint}
use Rattle.stores.proofs.Failing.{torn_at, failed_is}
use Rattle.stores.specs.Cards.{Medium, cut_at, landed, written, write_answer, lasts, written_both, write_both_answer}

judged_done : (a b c : Bool) (p : CutPoint) → judged a b (cond c Done (Cut p)) ≡ Done → (a && (b && c)) ≡ true
judged_done true true true p e = refl
judged_done true true false p e = cc
judged_done true false c p e = cc
judged_done false b c p e = cc

done_judged : (a b c : Bool) (p : CutPoint) → (a && (b && c)) ≡ true → judged a b (cond c Done (Cut p)) ≡ Done
done_judged true true true p e = refl
done_judged true true false p e = cc
done_judged true false c p e = cc
done_judged false b c p e = cc

pub lasts_if_done : (m : Medium) (row page : ℕ) → write_answer m row page ≡ Done → lasts m page ≡ true
lasts_if_done m row page e = judged_done (ltb page (length m.pages)) m.on (ltb 0 m.left) _ e

pub ends_if_not_done : (m : Medium) (row page : ℕ) → (write_answer m row page ≡ Done → ⊥) → lasts m page ≡ false
ends_if_not_done m row page no-done =
    ⊎_elim (λ t. absurd (no-done (done_judged (ltb page (length m.pages)) m.on (ltb 0 m.left) _ t))) (λ f. f) (cases_Bool (lasts m page))

-- what one write leaves, done or cut
pub written_landed : (m : Medium) (page : ℕ) (bytes : List ℕ) → page < length m.pages → m.on ≡ true → 0 < m.left → written m page bytes ≡ landed m page bytes
written_landed m page bytes l on h =
    cond-true _ _ _ (and_from _ _ (lt-ltb page (length m.pages) l) on) ∙ cond-true _ _ _ (lt-ltb 0 m.left h)

pub written_torn : (m : Medium) (page : ℕ) (bytes : List ℕ) → page < length m.pages → m.on ≡ true → m.left ≡ 0 → written m page bytes ≡ torn_at m page bytes
written_torn m page bytes l on h =
    cond-true _ _ _ (and_from _ _ (lt-ltb page (length m.pages) l) on) ∙ cond-false _ _ _ (le-ltb 0 m.left (omega arith)) ∙ failed_is m page bytes

pub write_done : (m : Medium) (row page : ℕ) → page < length m.pages → m.on ≡ true → 0 < m.left → write_answer m row page ≡ Done
write_done m row page l on h =
    done_judged (ltb page (length m.pages)) m.on (ltb 0 m.left) (cut_at m row page) (and_from _ _ (lt-ltb page (length m.pages) l) (and_from _ _ on (lt-ltb 0 m.left h)))

pub write_cut : (m : Medium) (row page : ℕ) → page < length m.pages → m.on ≡ true → m.left ≡ 0 → write_answer m row page ≡ Cut (cut_at m row page)
write_cut m row page l on h =
    cond-true _ _ _ (lt-ltb page (length m.pages) l) ∙ cond-true _ _ _ on ∙ cond-false _ _ _ (le-ltb 0 m.left (omega arith))

-- what two writes leave and answer: cut at the first, cut at the second, or done
module _ (m : Medium) (row first : ℕ) (bytes : List ℕ) (second : ℕ) (more : List ℕ) (l : first < length m.pages) (k : second < length m.pages) (on : m.on ≡ true) where
  lasting : 0 < m.left → lasts m first ≡ true
  lasting h = and_from _ _ (lt-ltb first (length m.pages) l) (and_from _ _ on (lt-ltb 0 m.left h))

  ending : m.left ≡ 0 → lasts m first ≡ false
  ending h = and_right (ltb first (length m.pages)) _ (and_right m.on _ (le-ltb 0 m.left (omega arith)))

  within : second < length (landed m first bytes).pages
  within = omega (arith, length-set m.pages first bytes)

  pub cut_first : m.left ≡ 0 → written_both m first bytes second more ≡ torn_at m first bytes
  cut_first h = cond-false _ _ _ (ending h) ∙ written_torn m first bytes l on h

  pub answer_first : m.left ≡ 0 → write_both_answer m row first bytes second ≡ Cut (cut_at m row first)
  answer_first h = cond-false _ _ _ (ending h) ∙ write_cut m row first l on h

  pub cut_second : m.left ≡ 1 → written_both m first bytes second more ≡ torn_at (landed m first bytes) second more
  cut_second h =
      cond-true _ _ _ (lasting (omega arith)) ∙ ap (λ x. written x second more) (written_landed m first bytes l on (omega arith))
      ∙ written_torn (landed m first bytes) second more within on (omega arith)

  pub answer_second : m.left ≡ 1 → write_both_answer m row first bytes second ≡ Cut (cut_at m row second)
  answer_second h =
      cond-true _ _ _ (lasting (omega arith)) ∙ ap (λ x. write_answer x row second) (written_landed m first bytes l on (omega arith))
      ∙ write_cut (landed m first bytes) row second within on (omega arith)

  pub done_both : 2 ≤ m.left → written_both m first bytes second more ≡ landed (landed m first bytes) second more
  done_both h =
      cond-true _ _ _ (lasting (omega arith)) ∙ ap (λ x. written x second more) (written_landed m first bytes l on (omega arith))
      ∙ written_landed (landed m first bytes) second more within on (omega arith)

  pub answer_done : 2 ≤ m.left → write_both_answer m row first bytes second ≡ Done
  answer_done h =
      cond-true _ _ _ (lasting (omega arith)) ∙ ap (λ x. write_answer x row second) (written_landed m first bytes l on (omega arith))
      ∙ write_done (landed m first bytes) row second within on (omega arith)

-- What a restart makes of a node. Assumes nothing.
use Rattle.std.proofs.Common.{◌≡◌, ℕ, true, leb, List, sym, ap, ◌∙◌, subst, inl, inr, arith}
use Rattle.std.proofs.lemmas.Bool.{cases_Bool, cond-true, cond-false}
use Rattle.model.specs.Power.{restart_answer, restarted}
use Rattle.model.specs.Store.{Stored, restart_fits}
use Rattle.model.specs.declared.answer.Answer.{Answer}
use Rattle.model.specs.declared.answer.Answer.TheVariants.{Done}
use Rattle.model.specs.declared.answer.CutPoint.{CutPoint}
use Rattle.stores.specs.Promises.{Restarts}
use Rattle.law.specs.Node.{Node as LawNode}
use Rattle.law.specs.Stops.{pending_stops}
use Rattle.ledger.specs.Kept.{Kept}

-- the node with its power after a restart, and its queue made anew
abbrev pub woken : ℕ → ℕ → ℕ → LawNode → LawNode
woken left tear owed n = record { row = n.row; w = n.w; power = restarted left tear owed n.power; queue = pending_stops n.row }

-- the store keeps it
kept_woken
    : (s t : Stored) (left tear owed : ℕ) (n : LawNode)
    → Kept s n
    → t ≡ record { rows = s.rows; power = restarted left tear owed s.power }
    → Kept t (woken left tear owed n)
kept_woken s t left tear owed n k e =
    subst (λ (x : Stored). Kept x (woken left tear owed n)) (sym e)
    (record { count = k.count; row = k.row; watermark = k.watermark; watermark_fits = k.watermark_fits; power = ap (restarted left tear owed) k.power })

-- a restart that was done, and had power enough
pub record Woke (t : Stored) (left tear : ℕ) (junk : List ℕ) (n : LawNode) : Type 0 where
  pub fits : restart_fits tear junk ≡ true
  pub lasts : leb n.power.owed left ≡ true
  pub kept : Kept t (woken left tear t.power.owed n)

module _ {point : CutPoint} {s t : Stored} {left tear : ℕ} {junk : List ℕ} {a : Answer} (did : Restarts point s t left tear junk a) (n : LawNode) (k : Kept s n) where
  is_in_range : restart_fits tear junk ≡ true → Kept t (woken left tear t.power.owed n)
  is_in_range e = kept_woken s t left tear t.power.owed n k (did.means ∙ cond-true _ _ _ e)

  answer_in_range : restart_fits tear junk ≡ true → a ≡ restart_answer left point n.power
  answer_in_range e = did.answer ∙ cond-true _ _ _ e ∙ ap (restart_answer left point) k.power

  pub woke_done : a ≡ Done → Woke t left tear junk n
  woke_done done =
      elim (cases_Bool (restart_fits tear junk)) [
        | inl fits ↦
            let answers = answer_in_range fits in
            elim (cases_Bool (leb n.power.owed left)) [
              | inl lasts ↦ record { fits = fits; lasts = lasts; kept = is_in_range fits }
              | inr cut ↦ absurd (let f = sym done ∙ answers ∙ cond-false _ _ _ cut in let z : ◌≡◌ {A = ℕ} 0 1 = cc in omega arith)
            ]
        | inr out ↦ absurd (let f = sym done ∙ did.answer ∙ cond-false _ _ _ out in let z : ◌≡◌ {A = ℕ} 0 1 = cc in omega arith)
      ]

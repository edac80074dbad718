-- A restart has nothing to write.
use Rattle.std.proofs.Common.{◌≡◌, ℕ, true, leb, List, sym, refl, ap, ◌∙◌, subst, arith}
use Rattle.std.proofs.lemmas.Bool.{cond-true, le-leb}
use Rattle.model.specs.declared.answer.Answer.TheVariants.{Done}
use Rattle.stores.specs.Cards.{Medium, turned_on}
use Rattle.stores.specs.Layouts.{Wakes}
use Rattle.stores.proofs.Rows.{same_stored}
use Rattle.shadow.specs.Layout.{Sound, meaning, restart_cut_at}
use Rattle.shadow.proofs.Committing.{known}

pub woke : (m n : Medium) (left tear : ℕ) (junk : List ℕ) → n ≡ turned_on m left tear junk → ∥ Sound m ∥₁ →
    ∥ Sound n ∥₁ × Wakes 0 (restart_cut_at m left) (meaning m) (meaning n) left tear Done
woke m n left tear junk e truncated =
    let s = known truncated in
    let long : leb 0 left ≡ true = le-leb 0 left (omega arith) in
    let on : Sound (turned_on m left tear junk) = record { sized = s.sized; wide = s.wide; flags = s.flags; rest = s.rest } in (
      ∣ subst Sound (sym e) on ∣₁,
      record {
        answer = sym (cond-true _ _ _ long);
        means = ap meaning e ∙ same_stored _ _ _ _ _ _ tear tear 0 refl (sym long) (omega arith) refl;
      },
    )

-- From what a commit or a restart did to the card to what the layout promises of it.
use Rattle.std.proofs.Common.{◌≡◌, ℕ, ◌<◌, ◌≤◌, true, List, length, sym, ap, ◌∙◌, subst}
use Rattle.std.proofs.Props.{props}
use Rattle.std.proofs.Math.Logic.{∥∥₁_elim}
use Rattle.model.specs.Store.{Stored}
use Rattle.model.specs.declared.answer.Answer.{Answer}
use Rattle.stores.specs.Cards.{Medium, turned_on}
use Rattle.stores.specs.Layouts.{Writes, Wakes}
use Rattle.stores.proofs.Rows.{same_stored}
use Rattle.journal.specs.Layout.{row_count, page_count, Sound, Journals, Mends, mark, meaning, commit_cut_at, restart_cut_at, owed_after_writes, owed_after_mending}
use Rattle.journal.proofs.Committing.{went}
use Rattle.journal.proofs.Restarting.{woke}

-- there is one proof at most that a card is sound
pub known : {m : Medium} → ∥ Sound m ∥₁ → Sound m
known t = ∥∥₁_elim t (hlevel props) (λ s. s)

owing : (s : Stored) (o : ℕ) → s.power.owed ≡ o → s ≡ record { rows = s.rows; power = record { on = s.power.on; left = s.power.left; tear = s.power.tear; owed = o } }
owing s o e = ap (λ x. record { rows = s.rows; power = record { on = s.power.on; left = s.power.left; tear = s.power.tear; owed = x } }) e

pub writes_went : (m n : Medium) (row : ℕ) (bytes : List ℕ) (a : Answer) → ∥ Sound m ∥₁ → row < row_count → m.on ≡ true → Journals m n row bytes a →
    ∥ Sound n ∥₁ × Writes 4 2 (owed_after_writes m.tear m.left) (commit_cut_at m row) (meaning m) (meaning n) row bytes a
writes_went m n row bytes a s l on did =
    let w = went m row bytes (known s) l on n a did in (
      ∣ w.sound ∣₁,
      record {
        answer = w.answer;
        means = owing (meaning n) _ w.owed ∙ same_stored _ _ _ _ _ _ _ _ _ w.rows w.on w.left w.tear;
      },
    )

pub wakes_woke : (m k n : Medium) (left tear : ℕ) (junk : List ℕ) (a : Answer) → ∥ Sound m ∥₁ → k ≡ turned_on m left tear junk →
    (length k.pages ≡ page_count → mark k.pages ≤ row_count → Mends k n a) →
    ∥ Sound n ∥₁ × Wakes (owed_after_mending (meaning m).power.owed tear left) (restart_cut_at m left) (meaning m) (meaning n) left tear a
wakes_woke m k n left tear junk a truncated on mends =
    let s = known truncated in
    let did : Mends k n a = mends (ap (λ (x : Medium). length x.pages) on ∙ s.sized) (subst (λ (x : Medium). mark x.pages ≤ row_count) (sym on) s.known) in
    let w = woke m k n left tear junk a on did.card did.answer s in (
      ∣ w.sound ∣₁,
      record {
        answer = w.answer;
        means = owing (meaning n) _ w.owed ∙ same_stored _ _ _ _ _ _ _ _ _ w.rows w.on w.left w.tear;
      },
    )

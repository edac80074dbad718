-- The order of slots: by the value, none behind all, then by the stop. Assumes nothing.
use Rattle.std.specs.Prelude.{◌≡◌, Bool, ◌&&◌, nat_eq, Some, None, Option, refl}
use Rattle.std.specs.declared.cmp.Ordering.TheVariants.{Less, Equal, Greater}
use Rattle.std.specs.declared.cmp.Ordering.{Ordering}
use Rattle.std.proofs.Common.{sym, subst, ◌∙◌}
use Rattle.std.specs.Option.{option_cmp, option_eq}
use Rattle.std.specs.Cmp.{IsTotalOrder, nat_cmp_total, on_total, then_total, back_total, ties, unsigned_po}
use Rattle.std.specs.Cmp.Lexicographic.{options_total}
use Rattle.std.specs.Ordering.{is_eq, ordering_then, nat_cmp, on, flip_args, then_cmp}
use Rattle.agenda.specs.declared.offer.Offer.{Offer}
use Rattle.agenda.specs.declared.slot.Slot.{Slot}

-- how two values compare, where none is behind all
abbrev pub late : {V : Type 0} → (V → V → Ordering) → Option V → Option V → Ordering
late R None None = Equal
late R None (Some y) = Greater
late R (Some x) None = Less
late R (Some x) (Some y) = R x y

abbrev pub slot_order : {V : Type 0} → (V → V → Ordering) → Slot V → Slot V → Ordering
slot_order R = then_cmp (on (λ x. x.value) (late R)) (on (λ x. x.stop) nat_cmp)

-- the library's order of options, where none is before all, turned round twice
late_back : {V : Type 0} (R : V → V → Ordering) (p q : Option V) → flip_args (option_cmp (flip_args R)) p q ≡ late R p q
late_back R None None = refl
late_back R None (Some y) = refl
late_back R (Some x) None = refl
late_back R (Some x) (Some y) = refl

module _ {V : Type 0} {R : V → V → Ordering} (o : IsTotalOrder R) where
  pub latest : IsTotalOrder (late R)
  latest = subst IsTotalOrder (λ i p q. late_back R p q i) (back_total (options_total (back_total o)))

  -- the order of slots is total if that of the values is
  pub slot_total : IsTotalOrder (slot_order R)
  slot_total = then_total (on_total (λ (x : Slot V). x.value) latest) (on_total (λ (x : Slot V). x.stop) nat_cmp_total)

-- slots with equal values and the same stop are those that the order doesn't tell apart
then_same : (r s : Ordering) → is_eq (ordering_then r s) ≡ (is_eq r && is_eq s)
then_same Less s = refl
then_same Equal s = refl
then_same Greater s = refl

module _ {V : Type 0} (E : V → V → Bool) (R : V → V → Ordering) (same : (x y : V) → E x y ≡ is_eq (R x y)) where
  late_same : (p q : Option V) → option_eq E p q ≡ is_eq (late R p q)
  late_same None None = refl
  late_same None (Some y) = refl
  late_same (Some x) None = refl
  late_same (Some x) (Some y) = same x y

  pub slot_same : (a b : Slot V) → (option_eq E a.value b.value && nat_eq a.stop b.stop) ≡ is_eq (slot_order R a b)
  slot_same a b =
      (λ k. late_same a.value b.value k && ties unsigned_po (λ _ _. refl) a.stop b.stop k)
      ∙ sym (then_same (late R a.value b.value) (nat_cmp a.stop b.stop))

-- the greater amount comes first
abbrev pub offer_order : Offer → Offer → Ordering
offer_order = flip_args (on (λ x. x.production.amount) nat_cmp)

pub offer_total : IsTotalOrder offer_order
offer_total = back_total (on_total (λ (x : Offer). x.production.amount) nat_cmp_total)

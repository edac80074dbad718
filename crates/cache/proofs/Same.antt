-- A store and its copies are all that a cached store is.
use Rattle.std.proofs.Common.{◌≡◌}
use Rattle.std.proofs.Props.{props}
use mathlib.Core.HLevel.{is_prop→PathP}
use Rattle.cache.specs.declared.cached.Cached.{Cached}
use Rattle.cache.specs.Copies.{Agrees}

pub same : {S : Type 0} {g : _} (a b : Cached S g) → a.below ≡ b.below → a.copies ≡ b.copies → a ≡ b
same {g = g} a b p q = λ i. record {
  below = p i;
  copies = q i;
  agrees = is_prop→PathP (λ j. Agrees (g.model (p j)) (q j).places) (λ j. hlevel props) a.agrees b.agrees i;
}

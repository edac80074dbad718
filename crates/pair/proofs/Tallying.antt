-- A tally is that of the pair that is shown. Assumes nothing.
use Rattle.std.proofs.Common.{◌≡◌, ℕ, ◌<◌, Bool, true, ◌&&◌, ltb, List, Some, Ok, Option, Result, sym, ap, ◌∙◌}
use Rattle.std.proofs.lemmas.Bool.{cond-true, lt-ltb}
use Rattle.model.specs.Limits.{stops}
use Rattle.law.specs.Pair.{Pair}
use Rattle.node.specs.declared.node.Damaged.{Damaged}
use Rattle.pair.specs.Tallies.{tally_of, told_of}
use Rattle.pair.specs.declared.pair.Tally.{Tally}

-- three tests that all came out true
all_true : (a b c : Bool) → a ≡ true → b ≡ true → c ≡ true → (a && (b && c)) ≡ true
all_true a b c e f g = ap (λ x. x && (b && c)) e ∙ ap (λ x. x && c) f ∙ g

pub tally_told
    : (held landed : List ℕ → ℕ) (p : Pair) (s : ℕ)
    → s < stops → p.collector.power.on ≡ true → p.spotter.power.on ≡ true
    → {h w l : ℕ}
    → h ≡ (tally_of held landed p s).held → w ≡ (tally_of held landed p s).pending → l ≡ (tally_of held landed p s).landed
    → ◌≡◌ {A = Result (Option Tally) Damaged} (Ok (Some (record { held = h; pending = w; landed = l }))) (Ok (told_of held landed p s))
tally_told held landed p s below con son {h} {w} {l} a b c =
    let on = all_true (ltb s stops) p.collector.power.on p.spotter.power.on (lt-ltb s stops below) con son in
    let same : ◌≡◌ {A = Tally} (record { held = h; pending = w; landed = l }) (tally_of held landed p s) = λ i. record { held = a i; pending = b i; landed = c i } in
    ap (λ (t : Tally). Ok (Some t)) same ∙ ap (λ (o : Option Tally). Ok o) (sym (cond-true _ _ _ on))

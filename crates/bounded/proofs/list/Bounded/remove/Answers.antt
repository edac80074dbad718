use Rattle.std.proofs.Common.{◌≡◌, ◌∙◌, Bool, true, cond, length, ltb, ap, sym, ltb-true}
use Rattle.std.specs.List.{remove}
use Rattle.bounded.proofs.Cuts.{without}
use Rattle.bounded.proofs.list.Bounded.remove.Goals as goal

pub returns-clause-items : goal.returns-clause-items
returns-clause-items g c =
    let all = c.as_slice-all in
    let was = all.ensures.value ∙ c.emptied-before.ensures.before in
    let there : true ≡ ltb c.args.place (length all.result.now) =
    c.in_ok-item.ensures.lookup.0 ∙ ap (λ xs. ltb c.args.place (length xs)) (c.as_slice.ensures.value ∙ sym was) in
    without g.row.N c.args.place all.result.now _ _ _ (ltb-true _ _ (sym there)) all.ensures.bound c.emptied-before.ensures.none c.extend.ensures c.extend-2.ensures
    ∙ ap (λ (b : Bool). cond b (remove all.result.now c.args.place) all.result.now) there
    ∙ ap (λ xs. cond (ltb c.args.place (length xs)) (remove xs c.args.place) xs) was

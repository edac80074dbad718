use Rattle.std.proofs.Common.{◌≡◌, ◌<◌, ◌++◌, ◌∷◌, [], Bool, true, Ok, Err, cond, ltb, length, sym, ap, ◌∙◌, arith, lt-ltb}
use Rattle.std.proofs.lemmas.List.{take_more_set, length-take-le}
use Rattle.bounded.specs.Lists.{listed}
use Rattle.bounded.proofs.list.Bounded.push.Goals as goal

pub returns : goal.returns
returns g c =
    let s = c.args.self.now.sized in
    let h : c.args.self.now.count < length c.args.self.now.items = omega arith in
    let l = length-take-le c.args.self.now.count c.args.self.now.items (omega arith) in
    let there : true ≡ ltb (length (listed c.args.self.now)) g.row.N = sym (lt-ltb _ _ (omega arith)) in
    record {
      room = ap (λ (b : Bool). cond b (Ok tt) (Err c.args.item)) there;
      items =
          take_more_set c.args.self.now.items c.args.self.now.count c.args.item h
          ∙ ap (λ (b : Bool). cond b (listed c.args.self.now ++ c.args.item ∷ []) (listed c.args.self.now)) there;
    }

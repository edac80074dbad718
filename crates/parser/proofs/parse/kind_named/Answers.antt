use Rattle.std.proofs.Common.{◌≡◌, arith, sym, ap, codes}
use Rattle.parser.specs.Parsed.{kind_named}
use Rattle.frames.specs.Spelt.{spelt_out}
use Rattle.parser.proofs.parse.kind_named.Goals as goal

pub returns-in-repeat : goal.returns-in-repeat
returns-in-repeat c =
    let word = c.args.word.now in
    let e = spelt_out word 6 (omega (arith, c.in-repeat.len_at_least, c.in-repeat.len_below)) in
    let f : word ≡ codes "repeat" = cc in
    sym (ap kind_named f)

pub returns-in-104 : goal.returns-in-104
returns-in-104 c =
    let word = c.args.word.now in
    let e = spelt_out word 7 (omega (arith, c.in-104.len_at_least, c.in-104.len_below)) in
    let f : word ≡ codes "hand-in" = cc in
    sym (ap kind_named f)

pub returns-in-advance : goal.returns-in-advance
returns-in-advance c =
    let word = c.args.word.now in
    let e = spelt_out word 7 (omega (arith, c.in-advance.len_at_least, c.in-advance.len_below)) in
    let f : word ≡ codes "advance" = cc in
    sym (ap kind_named f)

pub returns-in-deliver : goal.returns-in-deliver
returns-in-deliver c =
    let word = c.args.word.now in
    let e = spelt_out word 7 (omega (arith, c.in-deliver.len_at_least, c.in-deliver.len_below)) in
    let f : word ≡ codes "deliver" = cc in
    sym (ap kind_named f)

pub returns-in-restart : goal.returns-in-restart
returns-in-restart c =
    let word = c.args.word.now in
    let e = spelt_out word 7 (omega (arith, c.in-restart.len_at_least, c.in-restart.len_below)) in
    let f : word ≡ codes "restart" = cc in
    sym (ap kind_named f)

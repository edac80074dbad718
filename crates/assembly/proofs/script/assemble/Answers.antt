use Rattle.std.proofs.Common.{◌≡◌, ◌==◌, Some, None, Ok, vec_items, sym, ◌∙◌, arith, rules, tests}
use Rattle.std.proofs.iter.Serving.{serving}
use Rattle.std.proofs.lemmas.Iterator.Consumers.{YieldsList-from_enumerate}
use Rattle.std.proofs.lemmas.Iterator.Splits.{YieldsList-from_slice_split}
use Rattle.std.proofs.lemmas.Result.{err_from_is_err_and}
use Rattle.parser.specs.Parsed.{answered}
use Rattle.assembly.proofs.Loop.{start, ends, says_nothing, says_call, says_wrong}
use Rattle.assembly.proofs.script.assemble.Goals as goal

pub loop-i-init : goal.loop-i-init
loop-i-init c = (
  grind serving,
  search rules,
  start _ c.args.text.now _ (vec_items c.new-script.result) c.new-script.ensures.items
      (YieldsList-from_enumerate (YieldsList-from_slice_split _ (λ b. b == 10) c.args.text.now (cc) (cc) (cc) (λ x b q k. search (rules, tests))) cc),
)

pub loop-i-preserved : goal.loop-i-preserved
loop-i-preserved c =
    let none : answered c.parse_line.result ≡ Ok None = grind arith in (
      search rules,
      search rules,
      says_nothing _ c.args.text.now c.loop-i.i-iterator c.next.new.self (vec_items c.loop-i.script) c.loop-i.invariant.2 c.in-Some.i c.in-Some.line
          c.in-Some.ensures.steps (sym none ∙ c.parse_line.ensures.says),
    )

pub loop-i-preserved-in-Continue-branch-2 : goal.loop-i-preserved-in-Continue-branch-2
loop-i-preserved-in-Continue-branch-2 c =
    let call : answered c.parse_line.result ≡ Ok (Some c.in-Some-said.call) = grind arith in (
      search rules,
      search rules,
      says_call _ c.args.text.now c.loop-i.i-iterator c.next.new.self (vec_items c.loop-i.script) c.loop-i.invariant.2 c.in-Some.i c.in-Some.line
          c.in-Some.ensures.steps c.in-Some-said.call (vec_items c.add_frame.new.script) (sym call ∙ c.parse_line.ensures.says) (search rules),
    )

pub returns-in_err-said : goal.returns-in_err-said
returns-in_err-said c =
    let wrong = says_wrong _ c.args.text.now c.loop-i.i-iterator c.next.new.self (vec_items c.loop-i.script) c.loop-i.invariant.2 c.in-Some.i c.in-Some.line c.in-Some.ensures.steps in
    let p = err_from_is_err_and c.from_residual.result c.from_residual.ensures.1 in
    let q = c.map_err.ensures.cases in
    rw (p.1, p.2) (grind (arith, wrong))

pub returns : goal.returns
returns c = ends _ c.args.text.now c.loop-i.i-iterator c.next.new.self (vec_items c.loop-i.script) c.loop-i.invariant.2 c.in-None.ensures.steps

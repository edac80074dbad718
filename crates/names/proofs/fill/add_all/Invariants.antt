use Rattle.names.proofs.Adding.{Filling}
use Rattle.names.proofs.fill.add_all.Given as goal

abbrev pub invariant-loop-name : goal.invariant-loop-name
invariant-loop-name g l = Filling (g.N.NameSet.meaning l.initial.set) l.stop l.names l.name-index (g.N.NameSet.meaning l.set)

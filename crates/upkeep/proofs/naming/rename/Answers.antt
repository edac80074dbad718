use Rattle.upkeep.proofs.Renaming.{renames}
use Rattle.upkeep.proofs.naming.rename.Goals as goal

pub returns : goal.returns
returns g c =
    record {
      holds = renames (g.N.NameSet.meaning c.args.names.now) _ _ c.args.stop c.args.floor c.args.come (g.met.N.NameSet.counted _) c.forget.ensures.held c.remember.ensures.means;
    }

use Rattle.shell.proofs.Turn.{fewer}
use Rattle.tarbucket.proofs.main.Goals as goal

pub loop-chunk-smaller : goal.loop-chunk-smaller
loop-chunk-smaller c = fewer _ _ _ c.take.ensures (cc)

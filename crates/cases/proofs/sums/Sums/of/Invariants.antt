use Rattle.std.proofs.Common.{◌<◌, ◌^◌, take}
use Rattle.std.specs.List.{FoldsTo}
use Rattle.cases.specs.Sums.{Adds}
use Rattle.cases.proofs.sums.Sums.of.Given as goal

abbrev pub invariant-loop-w : goal.invariant-loop-w
invariant-loop-w g l =
    (l.first < 2 ^ 32)
    × (l.second < 2 ^ 32)
    × FoldsTo (Adds g.T.Into.converts 65599 4294967291) 0 (take l.w-index l.words) l.first
    × FoldsTo (Adds g.T.Into.converts 69069 4294967279) 0 (take l.w-index l.words) l.second

-- `raw_token::length::string_len` meets its contract. The loop keeps: the string is what has been passed and then the rest of its body.
use mathlib.Core.Path.{◌≡◌}
use Prim.Native.Nat.{◌-◌}
use lib.ListN.{drop}
use Rattle.raw_token.specs.Pattern.{behind, body, string}
use Rattle.raw_token.proofs.length.string_len.Given as goal

abbrev pub invariant-loop-i : goal.invariant-loop-i
invariant-loop-i l = string (drop l.at l.s) ≡ behind (l.i - l.at) (body l.quote l.escaped (drop l.i l.s))

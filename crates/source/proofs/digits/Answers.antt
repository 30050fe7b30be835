-- `source::digits` meets its contract: what the chain counts is the run's length, at the rest of the list or, past its end, at none.
use mathlib.Core.Path.{◌≡◌, refl, sym, ap, ◌∙◌}
use mathlib.Core.List.{List, []}
use mathlib.Core.Logic.{◌⊎◌, inl, inr}
use Prim.Native.Nat.{ℕ, ◌<◌, ◌≤◌, ◌+◌, ◌-◌}
use native.Mathlib.Omega.{arith}
use lib.Seq.{take_all}
use lib.ListN.{length, drop, length-drop}
use borrow.Author.Rules.{rules}
use Rattle.std.proofs.Common.{Bor}
use Rattle.std.specs.Prelude.{Option, Some, None, MatchOption, unwrap_or, slice_range}
use Rattle.std.proofs.lemmas.Iterator.{YieldsList-from_slice}
use Rattle.std.proofs.lemmas.Iterator.Consumers.{count_from_yields_List}
use Rattle.std.proofs.lemmas.Iterator.Search.{YieldsList-from_take_while}
use Rattle.std.proofs.lemmas.List.Folds.{length-prefix_len}
use Rattle.source.specs.Bytes.{digit, run}
use Rattle.source.proofs.Lists.{past, run_le, run_prefix}
use Rattle.source.proofs.digits.Goals as goal

-- what is left of s, where `at` is within it or not
rest_is : (s : List ℕ) (at : ℕ) (r : Option (Bor (List ℕ))) (d : Bor (List ℕ)) {l : Bor (List ℕ)} → (length s ≤ at → drop at s ≡ [])
    → MatchOption r ((length s < at) ⊎ (length s < length s)) (λ x. (at ≤ length s) × (length s ≤ length s) × (x.now ≡ slice_range s at (length s)) × (length x.now + at ≡ length s))
    → d.now ≡ [] → l ≡ unwrap_or r d → l.now ≡ drop at s
rest_is s at None d p (inl h) n e = ap (λ (x : Bor (List ℕ)). x.now) e ∙ n ∙ sym (p (omega arith))
rest_is s at None d p (inr h) n e = absurd (omega arith)
rest_is s at (Some x) d p h n e = ap (λ (x : Bor (List ℕ)). x.now) e ∙ h.2 ∙ take_all (length s - at) (drop at s) (omega (arith, length-drop at s))

pub returns : goal.returns
returns c =
    let s = c.args.s.now in
    let l = c.unwrap_or.result.now in
    let counted =
    count_from_yields_List c.take_while.result _ c.count.ensures.ran
    (YieldsList-from_take_while _ digit (YieldsList-from_slice l cc) c.take_while.ensures.closure c.take_while.ensures.done (λ x b q k. let e : b ≡ digit k.shown.now.now = search rules in (search rules, rw k.shows at e)))
    ∙ length-prefix_len digit l
    ∙ run_prefix digit l in
    let rest : l ≡ drop c.args.at s = rest_is s c.args.at c.get.result _ (past s c.args.at) c.get.ensures.lookup.0 refl c.unwrap_or.ensures in
    record { is = counted ∙ ap (run digit) rest; within = omega (arith, counted, run_le digit l, ap length rest, length-drop c.args.at s) }

-- `lexer::scan` meets its contract: the areas are lent, and what lies beyond them stays.
use mathlib.Core.Path.{sym, ap}
use mathlib.Core.List.{List, ◌++◌}
use Prim.Native.Nat.{ℕ}
use lib.ListN.{length, drop}
use lib.Seq.{length-take-le}
use Rattle.areas.specs.Area.{area, token_area}
use Rattle.lexer.proofs.scan.Goals as goal

pub slice_bounds-fill-end-2 : goal.slice_bounds-fill-end-2
slice_bounds-fill-end-2 c = sym (length-take-le (token_area (length c.args.src.now)) c.args.tokens.now c.requires.for_tokens)

pub slice_bounds-fill-end-4 : goal.slice_bounds-fill-end-4
slice_bounds-fill-end-4 c = sym (length-take-le (length c.args.src.now) c.args.text.now c.requires.for-text)

pub fill-requires : goal.fill-requires
fill-requires c = record { small = c.requires.small; tokens_long = length-take-le (token_area (length c.args.src.now)) c.args.tokens.now c.requires.for_tokens; text_long = length-take-le (length c.args.src.now) c.args.text.now c.requires.for-text }

pub returns : goal.returns
unfolding area
returns c =
    let a = c.args in
    let f = c.fill.ensures in
    record {
      answer = f.answer;
      tokens_are = ap (λ (l : List ℕ). l ++ drop (token_area (length a.src.now)) a.tokens.now) f.tokens_are;
      text_is = ap (λ (l : List ℕ). l ++ drop (length a.src.now) a.text.now) f.text_is;
    }

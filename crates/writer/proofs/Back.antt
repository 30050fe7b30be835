-- The standard text of an accepted script, no block of which is empty, is accepted again, as the same script.
-- Assumes nothing.
use mathlib.Core.Path.{◌≡◌, refl, ap, sym, ◌∙◌}
use mathlib.Core.Bool.{Bool, true, false, cond, true≢false}
use mathlib.Core.List.{List}
use Prim.Native.Nat.{ℕ, ◌≤◌}
use native.Mathlib.Omega.{arith}
use borrow.Author.Tests.{le-ltb, ltb-false}
use lib.Dec.{ltb}
use lib.ListN.{length}
use Rattle.std.specs.Prelude.{Option, Some, None}
use Rattle.areas.specs.Area.{token_area}
use Rattle.utf8.specs.Table.{utf8_error_lem}
use Rattle.lexer.specs.Scan.{Scan, scanned, refused, token_list}
use Rattle.tokens.specs.Token.{Token}
use Rattle.pyhyeon.specs.Reading.{Descended, Accepted, TooDeep, Misfit, descent}
use Rattle.standard.specs.Erase.{said}
use Rattle.standard.specs.Hollow.{any_hollow_lem}
use Rattle.standard.specs.Text.{standard_text}
use Rattle.standard.proofs.Top.{script_stands}
use Rattle.standard.proofs.ReadBack.{read_back}
use Rattle.reader.specs.Answer as reading
use Rattle.reader.specs.Outcome.{Outcome, tree_area, outcome, untouched, of_descent, of_scan, of_utf8}
use Rattle.writer.specs.Back.{Read, Written}
use Rattle.writer.specs.Writes.{accepts}

-- ---- which sources are accepted

module _ (source : List ℕ) (tokens text tree : ℕ) where
  descended : (ts : List Token) (bs : List ℕ) (d : Descended) → descent source ts ≡ d → utf8_error_lem source ≡ None → token_list source ≡ scanned ts bs →
      outcome source tokens text tree ≡ of_descent (length source) ts bs d → accepts (of_descent (length source) ts bs d).answer ≡ true → Read source tokens text tree
  descended ts bs (Accepted w) e u s o t = record { toks = ts; bytes = bs; work = w; well_formed = u; scans = s; descends = e; is = o }
  descended ts bs (TooDeep p w) e u s o t = let z : ◌≡◌ {A = ℕ} 0 1 = cc in absurd (omega arith)
  descended ts bs (Misfit f p w) e u s o t = let z : ◌≡◌ {A = ℕ} 0 1 = cc in absurd (omega arith)

  scans_to : (r : Scan) → token_list source ≡ r → utf8_error_lem source ≡ None → outcome source tokens text tree ≡ of_scan source r → accepts (of_scan source r).answer ≡ true → Read source tokens text tree
  scans_to (scanned ts bs) e u o t = descended ts bs (descent source ts) refl u e o t
  scans_to (refused n p) e u o t = let z : ◌≡◌ {A = ℕ} 0 1 = cc in absurd (omega arith)

  checks_to : (r : Option ℕ) → utf8_error_lem source ≡ r → outcome source tokens text tree ≡ of_utf8 source r → accepts (of_utf8 source r).answer ≡ true → Read source tokens text tree
  checks_to None e o t = scans_to (token_list source) refl e o t
  checks_to (Some p) e o t = let z : ◌≡◌ {A = ℕ} 0 1 = cc in absurd (omega arith)

  -- a source whose answer is a Tree
  pub accepted_read : {t n b o : ℕ} → (outcome source tokens text tree).answer ≡ reading.tree t n b o → Read source tokens text tree
  unfolding outcome
  accepted_read e = go (ltb 65536 (length source)) (ltb tokens (token_area (length source))) (ltb text (length source)) (ltb tree (tree_area (length source))) refl (ap accepts e)
    where
      go : (a b c d : Bool) →
          outcome source tokens text tree ≡ cond a (untouched 1 0) (cond b (untouched 2 0) (cond c (untouched 3 0) (cond d (untouched 4 0) (of_utf8 source (utf8_error_lem source))))) →
          accepts (cond a (untouched 1 0) (cond b (untouched 2 0) (cond c (untouched 3 0) (cond d (untouched 4 0) (of_utf8 source (utf8_error_lem source)))))).answer ≡ true →
          Read source tokens text tree
      go true b c d o t = absurd (true≢false (sym t))
      go false true c d o t = absurd (true≢false (sym t))
      go false false true d o t = absurd (true≢false (sym t))
      go false false false true o t = absurd (true≢false (sym t))
      go false false false false o t = checks_to (utf8_error_lem source) refl o t

  -- such a source is short
  pub accepted_short : {t n b o : ℕ} → (outcome source tokens text tree).answer ≡ reading.tree t n b o → length source ≤ 65536
  unfolding outcome
  accepted_short e = go (ltb 65536 (length source)) (ltb-false 65536 (length source)) _ (ap accepts e)
    where
      go : (a : Bool) → (a ≡ false → length source ≤ 65536) → (x : Outcome) → accepts (cond a (untouched 1 0) x).answer ≡ true → length source ≤ 65536
      go true h x t = absurd (true≢false (sym t))
      go false h x t = h refl

-- ---- a source with room for its areas

room_for : (s : List ℕ) (tokens text tree : ℕ) → length s ≤ 65536 → token_area (length s) ≤ tokens → length s ≤ text → tree_area (length s) ≤ tree → outcome s tokens text tree ≡ of_utf8 s (utf8_error_lem s)
unfolding outcome
room_for s tokens text tree a b c d = rw (le-ltb 65536 (length s) a, le-ltb tokens (token_area (length s)) b, le-ltb text (length s) c, le-ltb tree (tree_area (length s)) d) refl

-- ---- the law

pub standard_back : {source : List ℕ} {tokens text tree : ℕ} (x : Read source tokens text tree) → any_hollow_lem x.work.nodes ≡ false → Written x
standard_back {source} x f =
    let of = (script_stands source x.toks x.bytes x.scans x.work x.descends).of in
    let y = read_back source x.toks x.bytes x.scans x.work x.descends f in
    let s = standard_text (said source x.bytes of.tree) in
    let r = y.rewritten in
    record {
      of = of;
      back = record {
        toks' = y.tokens;
        bytes' = y.strings;
        work' = r.work;
        scans = y.scans;
        descends = r.accepted;
        accepts = λ tokens text tree a b c d.
            room_for s tokens text tree a b c d ∙ ap (of_utf8 s) (y.well_formed x.well_formed) ∙ ap (of_scan s) y.scans ∙ ap (of_descent (length s) y.tokens y.strings) r.accepted;
        alike = r.alike;
        again = r.again;
        filled = y.filled;
        same_text = y.same_text;
      };
    }

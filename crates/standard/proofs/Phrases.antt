-- How readings of texts are put together: within a line, and line by line.
-- Assumes nothing.
use mathlib.Core.Path.{◌≡◌, refl, ap, sym, ◌∙◌, subst}
use mathlib.Core.Bool.{Bool, true, false}
use mathlib.Core.List.{List, [], ◌∷◌, ◌++◌, append_assoc}
use Prim.Native.Nat.{ℕ, zero, suc, ◌-◌, ◌*◌, ◌≤◌}
use native.Mathlib.Omega.{arith}
use borrow.Author.Tests.{lt-ltb, le-ltb}
use lib.ListN.{replicate}
use Rattle.token.specs.Code.{Indent, Dedent, Newline, Eof}
use Rattle.spacing.specs.Indentation.{step}
use Rattle.rendered.proofs.Lexeme.{apart, parted}
use Rattle.rendered.proofs.Beside.{parted_apart, apart_byte}
use Rattle.rendered.proofs.LineSteps.{Starts}
use Rattle.standard.specs.Text.{line}
use Rattle.standard.proofs.Signs.{Sign, plain}
use Rattle.standard.proofs.Scanning.{Spelt, Reading, r_space, r_token, r_feed, r_line, r_end, marks}

-- what signs are put before others
abbrev pub Follow : Type 0
Follow = List Sign → List Sign

-- the first byte stays the first
pub starts_more : (w r : List ℕ) → Starts w → Starts (w ++ r)
starts_more w r i = record { byte = i.byte; rest = i.rest ++ r; is = ap (λ (l : List ℕ). l ++ r) i.is; inked = i.inked }

-- The bytes w before any others, or before those that lengthen no token, are read as the signs that f puts before what these are read as.
pub record Free (w : List ℕ) (f : Follow) : Type 0 where
  pub reads : (top : ℕ) (r : List ℕ) (ss : List Sign) → Reading false top r ss → Reading false top (w ++ r) (f ss)

pub record Ends (w : List ℕ) (f : Follow) : Type 0 where
  pub reads : (top : ℕ) (r : List ℕ) (ss : List Sign) → apart r ≡ true → Reading false top r ss → Reading false top (w ++ r) (f ss)

-- whatever follows them, these bytes lengthen no token before them
pub record Apart (w : List ℕ) : Type 0 where
  pub holds : (r : List ℕ) → apart (w ++ r) ≡ true

-- ---- one token, a space, nothing

pub token_ends : {w : List ℕ} {g : Sign} → Spelt w g → Ends w (λ ss. g ∷ ss)
token_ends {w} s = record { reads = λ top r ss a h. r_token s (parted_apart w r a) h }

pub token_free : {w : List ℕ} {g : Sign} → Spelt w g → ((r : List ℕ) → parted w r ≡ true) → Free w (λ ss. g ∷ ss)
token_free s p = record { reads = λ top r ss h. r_token s (p r) h }

pub space_free : Free (32 ∷ []) (λ ss. ss)
space_free = record { reads = λ top r ss h. r_space h }

pub space_ends : {w : List ℕ} {f : Follow} → Ends w f → Ends (32 ∷ w) f
space_ends e = record { reads = λ top r ss a h. r_space (e.reads top r ss a h) }

pub space_apart : (w : List ℕ) → Apart (32 ∷ w)
space_apart w = record { holds = λ r. apart_byte 32 (w ++ r) refl }

pub none_ends : Ends [] (λ ss. ss)
none_ends = record { reads = λ top r ss a h. h }

pub free_ends : {w : List ℕ} {f : Follow} → Free w f → Ends w f
free_ends e = record { reads = λ top r ss a h. e.reads top r ss h }

-- ---- one behind the other

regroup : {flag : Bool} {top : ℕ} {ss : List Sign} (v w r : List ℕ) → Reading flag top (v ++ (w ++ r)) ss → Reading flag top ((v ++ w) ++ r) ss
regroup {flag} {top} {ss} v w r h = subst (λ (l : List ℕ). Reading flag top l ss) (sym (append_assoc v w r)) h

pub apart_join : {v : List ℕ} (w : List ℕ) → Apart v → Apart (v ++ w)
apart_join {v} w a = record { holds = λ r. ap apart (append_assoc v w r) ∙ a.holds (w ++ r) }

module _ {v w : List ℕ} {f g : Follow} where
  pub free_free : Free v f → Free w g → Free (v ++ w) (λ ss. f (g ss))
  free_free d e = record { reads = λ top r ss h. regroup v w r (d.reads top (w ++ r) (g ss) (e.reads top r ss h)) }

  pub free_then : Free v f → Ends w g → Ends (v ++ w) (λ ss. f (g ss))
  free_then d e = record { reads = λ top r ss a h. regroup v w r (d.reads top (w ++ r) (g ss) (e.reads top r ss a h)) }

  pub ends_free : Ends v f → Apart w → Free w g → Free (v ++ w) (λ ss. f (g ss))
  ends_free d p e = record { reads = λ top r ss h. regroup v w r (d.reads top (w ++ r) (g ss) (p.holds r) (e.reads top r ss h)) }

  pub ends_then : Ends v f → Apart w → Ends w g → Ends (v ++ w) (λ ss. f (g ss))
  ends_then d p e = record { reads = λ top r ss a h. regroup v w r (d.reads top (w ++ r) (g ss) (p.holds r) (e.reads top r ss a h)) }

-- ---- lines

-- what follows a line at the level d, or one above it
pub record Rest (d : ℕ) (r : List ℕ) (ss : List Sign) : Type 0 where
  pub reads : (top : ℕ) → d ≤ top → Reading true top r (replicate (top - d) (plain Dedent) ++ ss)

-- lines at the level d, one or more; and perhaps none
pub record Lines (d : ℕ) (w : List ℕ) (f : Follow) : Type 0 where
  pub reads : (r : List ℕ) (ss : List Sign) → Rest d r ss → (top : ℕ) → d ≤ suc top → Reading true top (w ++ r) (marks top d ++ f ss)

pub record Maybe (d : ℕ) (w : List ℕ) (f : Follow) : Type 0 where
  pub reads : (r : List ℕ) (ss : List Sign) → Rest d r ss → Rest d (w ++ r) (f ss)

back : (top d : ℕ) → d ≤ top → marks top d ≡ replicate (top - d) (plain Dedent)
back top d h = rw (le-ltb top d h) refl

pub lines_maybe : {d : ℕ} {w : List ℕ} {f : Follow} → Lines d w f → Maybe d w f
lines_maybe {d} {w} {f} e =
    record { reads = λ r ss h. record { reads = λ top le. subst (λ (m : List Sign). Reading true top (w ++ r) (m ++ f ss)) (back top d le) (e.reads r ss h top (omega arith)) } }

pub no_lines : {d : ℕ} → Maybe d [] (λ ss. ss)
no_lines = record { reads = λ r ss h. h }

module _ {d : ℕ} {v w : List ℕ} {f g : Follow} where
  pub lines_then : Lines d v f → Maybe d w g → Lines d (v ++ w) (λ ss. f (g ss))
  lines_then a b = record { reads = λ r ss h top le. regroup v w r (a.reads (w ++ r) (g ss) (b.reads r ss h) top le) }

  pub maybe_then : Maybe d v f → Maybe d w g → Maybe d (v ++ w) (λ ss. f (g ss))
  maybe_then a b = record { reads = λ r ss h. record { reads = λ top le. regroup v w r ((a.reads (w ++ r) (g ss) (b.reads r ss h)).reads top le) } }

-- a line, and what follows it
headed : {d : ℕ} {w : List ℕ} {f : Follow} → Starts w → Ends w f → (r : List ℕ) (ss : List Sign) → Reading true d r ss → (top : ℕ) → d ≤ suc top →
    Reading true top (line d w ++ r) (marks top d ++ f (plain Newline ∷ ss))
headed {d} {w} {f} i e r ss h top le =
    let k : Reading false d (w ++ (10 ∷ r)) (f (plain Newline ∷ ss)) = e.reads d (10 ∷ r) (plain Newline ∷ ss) (apart_byte 10 r refl) (r_feed h) in
    regroup (replicate (step * d) 32) (w ++ 10 ∷ []) r (subst (λ (l : List ℕ). Reading true top (replicate (step * d) 32 ++ l) (marks top d ++ f (plain Newline ∷ ss))) (sym (append_assoc w (10 ∷ []) r)) (r_line le (starts_more w (10 ∷ r) i) k))

same_level : (d : ℕ) → replicate (d - d) (plain Dedent) ≡ []
same_level d = let e : d - d ≡ 0 = omega arith in rw e refl

-- a statement on a line of its own
pub line_is : {d : ℕ} {w : List ℕ} {f : Follow} → Starts w → Ends w f → Lines d (line d w) (λ ss. f (plain Newline ∷ ss))
line_is {d} i e = record {
  reads = λ r ss h top le. headed i e r ss (subst (λ (m : List Sign). Reading true d r (m ++ ss)) (same_level d) (h.reads d (omega arith))) top le;
}

-- a line that opens a block, and the lines of the block, one level deeper
more_dedents : (n : ℕ) (ss : List Sign) → replicate n (plain Dedent) ++ (plain Dedent ∷ ss) ≡ plain Dedent ∷ (replicate n (plain Dedent) ++ ss)
more_dedents zero ss = refl
more_dedents (suc n) ss = ap (λ (l : List Sign). plain Dedent ∷ l) (more_dedents n ss)

dedent_more : (top d : ℕ) → suc d ≤ top → (ss : List Sign) → replicate (top - d) (plain Dedent) ++ ss ≡ replicate (top - suc d) (plain Dedent) ++ (plain Dedent ∷ ss)
dedent_more top d h ss = let e : top - d ≡ suc (top - suc d) = omega arith in rw e (sym (more_dedents (top - suc d) ss))

closing : {d : ℕ} {r : List ℕ} {ss : List Sign} → Rest d r ss → Rest (suc d) r (plain Dedent ∷ ss)
closing {d} {r} {ss} h = record { reads = λ top le. subst (λ (l : List Sign). Reading true top r l) (dedent_more top d le ss) (h.reads top (omega arith)) }

one_indent : (d : ℕ) → marks d (suc d) ≡ plain Indent ∷ []
one_indent d = rw (lt-ltb d (suc d) (omega arith)) refl

pub block_is : {d : ℕ} {v w : List ℕ} {f g : Follow} → Starts v → Ends v f → Lines (suc d) w g →
    Lines d (line d v ++ w) (λ ss. f (plain Newline ∷ plain Indent ∷ g (plain Dedent ∷ ss)))
block_is {d} {v} {w} {f} {g} i e b = record {
  reads = λ r ss h top le.
      let k : Reading true d (w ++ r) (plain Indent ∷ g (plain Dedent ∷ ss)) =
      subst (λ (m : List Sign). Reading true d (w ++ r) (m ++ g (plain Dedent ∷ ss))) (one_indent d) (b.reads r (plain Dedent ∷ ss) (closing h) d (omega arith)) in
      regroup (line d v) w r (headed i e (w ++ r) (plain Indent ∷ g (plain Dedent ∷ ss)) k top le);
}

-- ---- the whole

none_less : (n : ℕ) → n - 0 ≡ n
none_less n = omega arith

end_rest : Rest 0 [] (plain Eof ∷ [])
end_rest = record { reads = λ top le. subst (λ (n : ℕ). Reading true top [] (replicate n (plain Dedent) ++ plain Eof ∷ [])) (sym (none_less top)) r_end }

pub whole_is : {w : List ℕ} {f : Follow} → Maybe 0 w f → Reading true 0 (w ++ []) (f (plain Eof ∷ []))
whole_is e = (e.reads [] (plain Eof ∷ []) end_rest).reads 0 (omega arith)

-- What the reader leaves of a source that it accepts, and the promise of the writer from there.
-- Assumes nothing.
use mathlib.Core.Path.{◌≡◌, refl, sym, ap, subst, ◌∙◌}
use mathlib.Core.Bool.{Bool, true, false, true≢false}
use mathlib.Core.List.{List, ◌++◌}
use Prim.Native.Nat.{ℕ, ◌+◌, ◌*◌, ◌-◌, ◌≤◌}
use native.Mathlib.Omega.{arith}
use lib.Dec.{ltb}
use lib.ListN.{length, take, drop, replicate, length-append, length-take}
use lib.Seq.{take_at}
use Rattle.areas.specs.Area.{area}
use Rattle.lexer.specs.Scan.{scanned}
use Rattle.ast.specs.Node.{Node, none}
use Rattle.ast.specs.Words.{nodes_of}
use Rattle.trees.specs.Law.{TreeOf}
use Rattle.standard.specs.Erase.{said}
use Rattle.standard.specs.Hollow.{any_hollow_lem}
use Rattle.standard.specs.Text.{standard_text}
use Rattle.standard.proofs.Top.{script_stands}
use Rattle.reader.specs.Answer as reader
use Rattle.reader.specs.Outcome.{Outcome, tree_area, header, records, after, outcome}
use Rattle.reader.specs.Reads.{Reads}
use Rattle.reader.proofs.Filled.{nodes_are, area_front, area_records, length_records}
use Rattle.writing.specs.Written.{room}
use Rattle.writer.specs.Answer.{numbers_of, read_of}
use Rattle.writer.specs.Back.{Read, Back}
use Rattle.writer.specs.Writes.{Result, by_tests, result, numbers_by, accepts, Rewrites, Writes}
use Rattle.writer.specs.Steps.{Accepted, Rewritten}
use Rattle.writer.specs.declared.Answer.{Answer}
use Rattle.writer.specs.declared.Answer.TheVariants.{Text, Hollow, Full, Unread}
use Rattle.writer.proofs.Back.{accepted_read, accepted_short, standard_back}

-- ---- what a result is

is_text : Answer → Bool
is_text (Text a m) = true
is_text (Hollow a) = false
is_text (Full a) = false
is_text (Unread a) = false

module _ (a : reader.Answer) (ns : List Node) (s out₀ : List ℕ) {r : Answer} {out : List ℕ} (e : record { answer = r; out = out } ≡ result a ns s out₀) where
  -- the reader's answer is in it
  of_reader : read_of r ≡ a
  of_reader = ap (λ (x : Result). read_of x.answer) e ∙ go (any_hollow_lem ns) (ltb (room (length out₀)) (length s))
    where
      go : (h l : Bool) → read_of (by_tests a s out₀ h l).answer ≡ a
      go true true = refl
      go true false = refl
      go false true = refl
      go false false = refl

  -- its numbers
  of_numbers : {t n b o : ℕ} → a ≡ reader.tree t n b o → numbers_of r ≡ numbers_by (reader.numbers_of a) (length s) (any_hollow_lem ns) (ltb (room (length out₀)) (length s))
  of_numbers i = ap (λ (x : Result). numbers_of x.answer) e ∙ go (any_hollow_lem ns) (ltb (room (length out₀)) (length s))
    where
      go : (h l : Bool) → numbers_of (by_tests a s out₀ h l).answer ≡ numbers_by (reader.numbers_of a) (length s) h l
      go true true = refl
      go true false = refl
      go false true = refl
      go false false = rw i refl

  -- a text: no block is empty, and it stands in front
  of_text : (m : ℕ) → r ≡ Text a m → (any_hollow_lem ns ≡ false) × (take m out ≡ s)
  unfolding is_text
  of_text m f = go (any_hollow_lem ns) (ltb (room (length out₀)) (length s)) refl e
    where
      go : (h l : Bool) → any_hollow_lem ns ≡ h → ◌≡◌ {A = Result} (record { answer = r; out = out }) (by_tests a s out₀ h l) → (any_hollow_lem ns ≡ false) × (take m out ≡ s)
      go true true p q = absurd (true≢false (sym (ap is_text f) ∙ ap (λ (x : Result). is_text x.answer) q))
      go true false p q = absurd (true≢false (sym (ap is_text f) ∙ ap (λ (x : Result). is_text x.answer) q))
      go false true p q = absurd (true≢false (sym (ap is_text f) ∙ ap (λ (x : Result). is_text x.answer) q))
      go false false p q =
          let l : m ≡ length s = ap (λ (x : Answer). (numbers_of x).length) (sym f ∙ ap (λ (x : Result). x.answer) q) in
          (p, ap (λ (x : Result). take m x.out) q ∙ take_at s (replicate (length out₀ - length s) 0) m (sym l))

-- ---- a source that the reader accepts, with this answer, and the three slices before and after

module _ (src tokens₀ text₀ tree₀ tokens text tree : List ℕ) (a : reader.Answer) {t nodes used o : ℕ} (is : a ≡ reader.tree t nodes used o) (rd : Reads src a tokens₀ text₀ tree₀ tokens text tree) where
  answered : (outcome src (length tokens₀) (length text₀) (length tree₀)).answer ≡ reader.tree t nodes used o
  answered = sym rd.answer ∙ is

  x : Read src (length tokens₀) (length text₀) (length tree₀)
  x = accepted_read src (length tokens₀) (length text₀) (length tree₀) answered

  counted : reader.tree t nodes used o ≡ reader.tree x.work.tokens (length x.work.nodes) (length x.bytes) x.work.openings
  counted = sym answered ∙ ap (λ (y : Outcome). y.answer) x.is

  nodes_many : nodes ≡ length x.work.nodes
  nodes_many = ap (λ (r : reader.Answer). (reader.numbers_of r).nodes) counted

  used_many : used ≡ length x.bytes
  used_many = ap (λ (r : reader.Answer). (reader.numbers_of r).text) counted

  -- the strings, in front of the text
  strings : take used text ≡ x.bytes
  strings = ap (take used) (rd.text_is ∙ ap (λ (y : Outcome). after y.text (length src) text₀) x.is) ∙ area_front (length src) used x.bytes text₀ (sym used_many)

  pub text_long : used ≤ length text
  text_long = omega (arith, used_many, ap length strings, length-take used text)

  -- the nodes, behind the tree's header
  abbrev front : List ℕ
  front = header (length src) x.work.tokens (length x.bytes) (length x.work.nodes) x.work.openings

  tree_is : tree ≡ area (tree_area (length src)) (front ++ records x.work.nodes) tree₀
  tree_is = rd.tree_is ∙ ap (λ (y : Outcome). after y.tree (tree_area (length src)) tree₀) x.is

  in_tree : nodes_of tree nodes ≡ x.work.nodes
  in_tree =
      nodes_are tree nodes x.work.nodes nodes_many
      (ap (λ (l : List ℕ). take (8 * nodes) (drop 8 l)) tree_is
      ∙ ap (λ (k : ℕ). take (8 * k) (drop 8 (area (tree_area (length src)) (front ++ records x.work.nodes) tree₀))) nodes_many
      ∙ area_records (tree_area (length src)) (length src) x.work.tokens (length x.bytes) (length x.work.nodes) x.work.openings (records x.work.nodes) tree₀ (length_records x.work.nodes))

  tree_long : 8 * nodes + 8 ≤ length tree
  unfolding area
  tree_long =
      let filled = front ++ records x.work.nodes in
      let zeros : List ℕ = replicate (tree_area (length src) - length filled) 0 in
      omega (arith, nodes_many, ap length tree_is, length-append (filled ++ zeros) (drop (tree_area (length src)) tree₀), length-append filled zeros, length-append front (records x.work.nodes), length_records x.work.nodes)

  few : nodes ≤ none
  few = omega (arith, ap reader.written is, ap (λ (r : reader.Answer). (reader.numbers_of r).tokens) is, rd.few_nodes, rd.few_tokens, accepted_short src (length tokens₀) (length text₀) (length tree₀) answered)

  of : TreeOf src x.toks x.work.nodes
  of = (script_stands src x.toks x.bytes x.scans x.work x.descends).of

  pub lent : Accepted src (take used text) tree nodes
  lent = record { toks = x.toks; scans = x.scans ∙ ap (scanned x.toks) (sym strings); of = subst (TreeOf src x.toks) (sym in_tree) of; held = tree_long; few = few }

  module _ (out₀ : List ℕ) (r : Answer) (out : List ℕ) (w : Rewritten (reader.tree t nodes used o) src (take used text) tree nodes out₀ r out) where
    by_tree : (t : TreeOf src x.toks x.work.nodes) → record { answer = r; out = out } ≡ result a x.work.nodes (standard_text (said src x.bytes t.tree)) out₀
    by_tree t =
        let u : Rewritten a src (take used text) tree nodes out₀ r out = subst (λ (b : reader.Answer). Rewritten b src (take used text) tree nodes out₀ r out) (sym is) w in
        let v : Rewritten a src x.bytes tree nodes out₀ r out = subst (λ (bs : List ℕ). Rewritten a src bs tree nodes out₀ r out) strings u in
        subst (λ (ns : List Node). (t : TreeOf src x.toks ns) → record { answer = r; out = out } ≡ result a ns (standard_text (said src x.bytes t.tree)) out₀) in_tree (v x.toks x.scans) t

    back : (m : ℕ) → r ≡ Text a m → Back src x.bytes x.work.nodes (take m out)
    back m f =
        let filled = (of_text a x.work.nodes (standard_text (said src x.bytes of.tree)) out₀ (by_tree of) m f).0 in
        let y = standard_back x filled in
        let s = standard_text (said src x.bytes y.of.tree) in
        subst (Back src x.bytes x.work.nodes) (sym (of_text a x.work.nodes s out₀ (by_tree y.of) m f).1) y.back

    pub told : Writes src r tokens₀ text₀ tree₀ out₀ tokens text tree out
    told =
        let e = sym (of_reader a x.work.nodes (standard_text (said src x.bytes of.tree)) out₀ (by_tree of)) in
        record {
          reads = subst (λ (b : reader.Answer). Reads src b tokens₀ text₀ tree₀ tokens text tree) e rd;
          unread = λ f. absurd (true≢false (sym (ap accepts is) ∙ ap accepts e ∙ f));
          refused = λ f. absurd (true≢false (sym (ap accepts is) ∙ ap accepts e ∙ f));
          rewrites = λ _. subst (λ (b : reader.Answer). Rewrites src (length tokens₀) (length text₀) (length tree₀) b out₀ r out) e (record { read = x; of = of; is = by_tree; numbers = λ t. of_numbers a x.work.nodes (standard_text (said src x.bytes t.tree)) out₀ (by_tree t) is; back = back });
        }

-- ---- one that it refuses

pub refused : (src tokens₀ text₀ tree₀ out₀ tokens text tree : List ℕ) (a : reader.Answer) → accepts a ≡ false → Reads src a tokens₀ text₀ tree₀ tokens text tree → Writes src (Unread a) tokens₀ text₀ tree₀ out₀ tokens text tree out₀
refused src tokens₀ text₀ tree₀ out₀ tokens text tree a f rd = record { reads = rd; unread = λ _. (refl, refl); refused = λ _. refl; rewrites = λ e. absurd (true≢false (sym e ∙ f)) }

-- From an accepted source to its text: the tree stands in the words, and what was put is the answer that is promised.
-- Assumes nothing.
use mathlib.Core.Path.{◌≡◌, refl, sym, ap, ap₂, subst, ◌∙◌}
use mathlib.Core.Bool.{true, false}
use mathlib.Core.List.{List, [], map}
use Prim.Native.Nat.{ℕ, ◌+◌, ◌*◌, ◌≤◌}
use borrow.Author.Tests.{le-ltb, lt-ltb}
use lib.ListN.{length}
use Rattle.tokens.specs.Token.{Token}
use Rattle.lexer.specs.Scan.{scanned, token_list}
use Rattle.ast.specs.Node.{none}
use Rattle.ast.specs.Words.{nodes_of}
use Rattle.trees.specs.Law.{TreeOf}
use Rattle.standard.specs.Alike.{shade}
use Rattle.standard.specs.Erase.{said}
use Rattle.standard.specs.Hollow.{any_hollow_lem}
use Rattle.standard.specs.Text.{standard_text}
use Rattle.standard.specs.Bare.{onto_b}
use Rattle.standard.proofs.Shades.{flat_is}
use Rattle.standard.proofs.Planted.{planted}
use Rattle.reader.specs.Answer as reading
use Rattle.writing.specs.declared.back.Back.{Back}
use Rattle.writing.specs.Wrote.{Wrote, Empty}
use Rattle.writing.specs.Written.{room, Gives}
use Rattle.std.specs.Prelude.{Option, Some as some, None, replicate}
use Rattle.writer_expr.specs.Laid.{Stands}
use Rattle.writer_expr.proofs.Bridge.{whole_stands}
use Rattle.writer_stmt.specs.Lines.{SomeProgram, PutsProgram}
use Rattle.writer.specs.Steps.{Accepted, Rewritten}
use Rattle.writer.specs.declared.Answer.TheVariants.{Text, Hollow, Full}
use Rattle.writer.proofs.Placed.{all_placed}

module _ (src text tree : List ℕ) (nodes : ℕ) where
  -- what a tree of the nodes says stands in the words
  tree_stands : (toks : List Token) → token_list src ≡ scanned toks text → (t : TreeOf src toks (nodes_of tree nodes)) → 8 * nodes + 8 ≤ length tree → nodes ≤ none → Stands src text tree 0 (said src text t.tree) nodes
  tree_stands toks e t h k =
      whole_stands src text tree nodes (all_placed src toks text e (nodes_of tree nodes) t tree nodes refl)
      (ap (map (shade src text)) t.is ∙ flat_is src text t.tree ∙ ap (onto_b [] 0 none) (sym (planted src text toks t.tree t.proper))) h k

  pub some-program : Accepted src text tree nodes → SomeProgram src text tree nodes
  some-program a = record { from = 0; tree = said src text a.of.tree; stands = tree_stands a.toks a.scans a.of a.held a.few }

  module _ (a : reading.Answer) (out : List ℕ) where
    -- a block with no statement
    pub hollow_told : {out' : List ℕ} → any_hollow_lem (nodes_of tree nodes) ≡ true → out' ≡ replicate (length out) 0 → Rewritten a src text tree nodes out (Hollow a) out'
    hollow_told h e toks s t = rw h (ap (λ (o : List ℕ). record { answer = Hollow a; out = o }) e)

    module _ (acc : Accepted src text tree nodes) (h : any_hollow_lem (nodes_of tree nodes) ≡ false) (start done : Back) (r : ℕ) (empty : Empty start out) (puts : PutsProgram src text tree nodes start done r)
        (w : Option ℕ) (out₂ : List ℕ) (front : (t before : List ℕ) (start : Back) → Empty start before → Wrote t start done → Gives t (length before) w out₂) where
      -- what becomes of the text of one tree
      given : {v : Option ℕ} → w ≡ v → (toks : List Token) → token_list src ≡ scanned toks text → (t : TreeOf src toks (nodes_of tree nodes)) → Gives (standard_text (said src text t.tree)) (length out) v out₂
      given e toks s t =
          let x = said src text t.tree in
          subst (λ (v : Option ℕ). Gives (standard_text x) (length out) v out₂) e (front (standard_text x) out start empty (puts 0 x (tree_stands toks s t acc.held acc.few)).wrote)

      pub text_told : {m : ℕ} → w ≡ some m → Rewritten a src text tree nodes out (Text a m) out₂
      text_told e toks s t =
          let g = given e toks s t in
          rw (h, le-ltb (room (length out)) (length (standard_text (said src text t.tree))) g.1) (ap₂ (λ (k : ℕ) (o : List ℕ). record { answer = Text a k; out = o }) g.0 g.2)

      pub full_told : w ≡ None → Rewritten a src text tree nodes out (Full a) out₂
      full_told e toks s t =
          let g = given e toks s t in
          rw (h, lt-ltb (room (length out)) (length (standard_text (said src text t.tree))) g.0) (ap (λ (o : List ℕ). record { answer = Full a; out = o }) g.1)

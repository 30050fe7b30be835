-- Tokens whose signs are those that a tree is written as are accepted within the room for depth, and their tree says the same.
-- Assumes nothing.
use mathlib.Core.Path.{◌≡◌, refl, ap, sym, ◌∙◌}
use mathlib.Core.List.{List, [], ◌∷◌, map}
use Prim.Native.Nat.{ℕ, ◌≤◌}
use Rattle.grammar.specs.Descent.{Answer, done, no, deep, stuck, descend}
use Rattle.grammar.proofs.Sets.{Sees}
use Rattle.token.specs.Code.{Eof}
use Rattle.tokens.specs.Token.{Token}
use Rattle.pyhyeon.specs.Symbol.{symbols}
use Rattle.pyhyeon.specs.Machine.{blank}
use Rattle.pyhyeon.specs.Action.{machine}
use Rattle.pyhyeon.specs.Rules.{Program}
use Rattle.pyhyeon.specs.Tables.{pyhyeon, follow, depth}
use Rattle.pyhyeon.specs.Reading.{Work, Accepted, start, work, descended, descent}
use Rattle.unparse.specs.Trees.{script}
use Rattle.unparse.specs.Trees as to
use Rattle.unparse.specs.Levels.{X}
use Rattle.unparse.proofs.Write.{need, print, write, perform}
use Rattle.unparse.specs.Values.{no_script}
use Rattle.unparse.proofs.Machine.{keep, top, trees}
use Rattle.unparse.proofs.Top as written
use Rattle.unparse.proofs.Return.{for_Program}
use Rattle.standard.specs.Erase.{said}
use Rattle.standard.proofs.Erasing.{Plain, symbol_at, load_at}
use Rattle.standard.proofs.Signs.{plain, signs}
use Rattle.standard.proofs.SignIn.{sign_in, symbols_are, loads_are}
use Rattle.standard.proofs.Reading.{Said, first, accepted_said}

-- the script that a machine of erased trees came to
result : Answer trees → to.Tree script
result (done n s) = (top 0 s.kept).result
result (no asked n s) = no_script
result (deep n s) = no_script
result stuck = no_script

-- It is accepted, and its nodes are those of a tree that says t.
pub record Again (source text : List ℕ) (toks : List Token) (fine : Plain source toks) (t : to.Tree script) : Type 0 where
  pub work : Work
  pub accepted : descent source toks ≡ Accepted work
  pub reading : Said source text toks fine work.nodes
  pub same : said source text reading.of.tree ≡ t

pub again : (source text : List ℕ) (toks : List Token) (fine : Plain source toks) (t : to.Tree script) → need X t ≤ depth → map (sign_in source text) toks ≡ signs (write X t) (plain Eof ∷ []) → Again source text toks fine t
unfolding descent start follow result print
again source text toks fine t le h =
    let see : Sees (follow Program) (Eof ∷ []) = record { holds = tt } in
    let x = written.for_Program {M = machine source toks} t depth le (Eof ∷ []) blank see 0 in
    let k = perform (machine source toks) (write X t) blank in
    let w = work source toks x.count k in
    let f : descend pyhyeon depth Program 0 (start source toks) ≡ done x.count (record { rest = Eof ∷ []; kept = k }) = rw (symbols_are source text toks (write X t) h) x.is in
    let a : descent source toks ≡ Accepted w = ap (descended source toks) f in
    let d = accepted_said source text toks fine w a in
    let y = for_Program t depth le (Eof ∷ []) ([] ∷ []) (symbol_at source text toks 0) (load_at source text toks 0) [] see in
    let e : descend {M = trees} pyhyeon depth Program 0 (record { rest = symbols source toks; kept = first source text toks fine }) ≡
    done y.count (record { rest = Eof ∷ []; kept = keep ([] ∷ []) y.code y.load (y.value ∷ []) }) = rw (symbols_are source text toks (write X t) h, loads_are source text toks (write X t) h) y.is in
    let v : (top 0 d.last).result ≡ y.value.result = ap result (sym d.reads ∙ e) in
    let u : (top 0 d.last).result ≡ said source text d.of.tree = rw d.value refl in
    record { work = w; accepted = a; reading = d; same = sym u ∙ v ∙ y.same }

-- Each row of the table of instructions, and each instruction by its row.
use Rattle.std.proofs.Common.{◌≡◌, ℕ, ◌^◌, ◌<◌, Bool, true, false, cond, List, [], ◌∷◌, ◌++◌, map, Option, Some, None, refl, sym, ap, subst, ◌∙◌, arith, decimal, ℤ}
use Rattle.std.specs.Fmt.{signed_decimal}
use Rattle.w_types.specs.declared.types.HeapType.{HeapType}
use Rattle.w_types.specs.declared.types.ValType.{ValType}
use Rattle.w_syntax.specs.declared.instructions.Clause.{Clause}
use Rattle.std.specs.Prelude.{option_map, nat_lt, not, ◌&&◌, is_some, ⊤}
use Rattle.std.specs.List.{list_all}
use Rattle.std.specs.Str.{bytes_eq}
use Rattle.std.proofs.lemmas.Bool.{ltb-true}
use Rattle.std.proofs.lemmas.Slice.Eq.{bytes_eq-Decides}
use Rattle.w_syntax.specs.declared.numeric.IntType.TheVariants as int
use Rattle.w_syntax.specs.declared.numeric.Unop.TheVariants as unary
use Rattle.w_syntax.specs.declared.numeric.Binop.TheVariants as binary
use Rattle.w_syntax.specs.declared.numeric.Relop.TheVariants as compare
use Rattle.w_syntax.specs.declared.numeric.Cvtop.TheVariants as convert
use Rattle.w_syntax.specs.declared.numeric.NumericOp.TheVariants as numeric
use Rattle.w_syntax.specs.declared.memory_instructions.LoadOp.TheVariants as load
use Rattle.w_syntax.specs.declared.memory_instructions.StoreOp.TheVariants as store
use Rattle.w_syntax.specs.declared.memory_instructions.MemArg.{MemArg}
use Rattle.w_syntax.specs.declared.memory_instructions.MemoryOp.TheVariants as memory
use Rattle.w_syntax.specs.declared.instructions.ControlOp.TheVariants as control
use Rattle.w_syntax.specs.declared.instructions.ParametricOp.TheVariants as parametric
use Rattle.w_syntax.specs.declared.instructions.VariableOp.TheVariants as variable
use Rattle.w_syntax.specs.declared.instructions.TableOp.TheVariants as table_op
use Rattle.w_syntax.specs.declared.instructions.ReferenceOp.TheVariants as reference
use Rattle.w_syntax.specs.declared.instructions.SwitchingOp.TheVariants as switching
use Rattle.w_syntax.specs.declared.instructions.Op.{Op}
use Rattle.w_syntax.specs.declared.instructions.Op.TheVariants as op
use Rattle.w_syntax.specs.declared.instructions.BlockKind.TheVariants as kind
use Rattle.w_syntax.specs.declared.instructions.BlockType.{BlockType}
use Rattle.w_syntax.specs.declared.instructions.Token.{Token}
use Rattle.w_syntax.specs.declared.instructions.Token.TheVariants as tok
use Rattle.w_words.specs.Words.{Word, IsClean, Each, two_of, each_of}
use Rattle.w_words.specs.Numbers.{Index32, SignedFits, number_of}
use Rattle.w_words.specs.Types.{heap_word, HeapFits, val_word, ValFits, block_word, BlockFits}
use Rattle.w_words.specs.Clauses.{labels_of, clause_word, ClauseFits, clause_of}
use Rattle.w_words.proofs.Readings.{IsListSpelling, both, mapped, then_some, ended_told, ones, twos, eaches, each_sound, each_complete, each_clean}
use Rattle.w_words.proofs.Numerals.{numbers, indices, signed_numbers}
use Rattle.w_words.proofs.TypeWords.{heap_types, val_types, block_types}
use Rattle.w_words.proofs.ClauseWords.{labels_sound, labels_complete, labels_clean, clauses}
use Rattle.w_lines.specs.Spelling.{kinds, reader_in}
use Rattle.w_lines.specs.Instructions.{Form, Alone, Index, Indices, Access, Const32, Const64, Heap, Types, Labels, Clauses, Blocks, Row, rows, token_name, two_words, immediates, ArgFits, TokenFits, row_in, access_of, handler_of, form_of, token_of}

-- ## What each row makes

-- the token has this name and these immediates
record Has (t : Token) (w : Word) (ws : List Word) : Type 0 where
  fits : TokenFits t
  name : token_name t ≡ w
  rest : immediates t ≡ ws

abbrev FormTells : Word → Form → Type 0
FormTells w (Alone t) = Has t w []
FormTells w (Index f) = (x : ℕ) → Index32 x → Has (f x) w (decimal x ∷ [])
FormTells w (Indices f) = (x y : ℕ) → Index32 x → Index32 y → Has (f x y) w (two_words x y)
FormTells w (Access f) = (m : MemArg) → ArgFits m → Has (f m) w (two_words m.align m.offset)
FormTells w (Const32 f) = (z : ℤ) → SignedFits 32 z → Has (f z) w (signed_decimal z ∷ [])
FormTells w (Const64 f) = (z : ℤ) → SignedFits 64 z → Has (f z) w (signed_decimal z ∷ [])
FormTells w (Heap f) = (h : HeapType) → HeapFits h → Has (f h) w (heap_word h ∷ [])
FormTells w (Types f) = (ts : List ValType) → Each ValFits ts → Has (f ts) w (map val_word ts)
FormTells w (Labels f) = (ls : List ℕ) (l : ℕ) → Each Index32 ls → Index32 l → Has (f ls l) w (map decimal (ls ++ l ∷ []))
FormTells w (Clauses f) = (t : ℕ) (cs : List Clause) → Index32 t → Each ClauseFits cs → Has (f t cs) w (decimal t ∷ map clause_word cs)
FormTells w (Blocks f) = (b : BlockType) → BlockFits b → Has (f b) w (block_word b ∷ [])

abbrev EachTells : List Row → Type 0
EachTells [] = ⊤
EachTells (r ∷ rs) = FormTells r.1 r.2 × EachTells rs

infixr 10 ◌&◌
abbrev ◌&◌ : {P Q : Type 0} → P → Q → P × Q
p & q = (p, q)

rows_tell : EachTells rows
unfolding rows
rows_tell =
    record { fits = tt; name = refl; rest = refl }
    & record { fits = tt; name = refl; rest = refl }
    & (λ b h. record { fits = h; name = refl; rest = refl })
    & (λ b h. record { fits = h; name = refl; rest = refl })
    & (λ b h. record { fits = h; name = refl; rest = refl })
    & record { fits = tt; name = refl; rest = refl }
    & record { fits = tt; name = refl; rest = refl }
    & (λ x h. record { fits = h; name = refl; rest = refl })
    & (λ x h. record { fits = h; name = refl; rest = refl })
    & (λ x y g h. record { fits = (g, h); name = refl; rest = refl })
    & record { fits = tt; name = refl; rest = refl }
    & (λ x h. record { fits = h; name = refl; rest = refl })
    & (λ x y g h. record { fits = (g, h); name = refl; rest = refl })
    & (λ x h. record { fits = h; name = refl; rest = refl })
    & (λ x y g h. record { fits = (g, h); name = refl; rest = refl })
    & (λ x h. record { fits = h; name = refl; rest = refl })
    & (λ x h. record { fits = h; name = refl; rest = refl })
    & record { fits = tt; name = refl; rest = refl }
    & record { fits = tt; name = refl; rest = refl }
    & (λ z h. record { fits = h; name = refl; rest = refl })
    & (λ x h. record { fits = h; name = refl; rest = refl })
    & (λ x h. record { fits = h; name = refl; rest = refl })
    & (λ x h. record { fits = h; name = refl; rest = refl })
    & (λ x h. record { fits = h; name = refl; rest = refl })
    & (λ x h. record { fits = h; name = refl; rest = refl })
    & (λ x h. record { fits = h; name = refl; rest = refl })
    & (λ x h. record { fits = h; name = refl; rest = refl })
    & (λ m h. record { fits = h; name = refl; rest = refl })
    & (λ m h. record { fits = h; name = refl; rest = refl })
    & (λ m h. record { fits = h; name = refl; rest = refl })
    & (λ m h. record { fits = h; name = refl; rest = refl })
    & (λ m h. record { fits = h; name = refl; rest = refl })
    & (λ m h. record { fits = h; name = refl; rest = refl })
    & (λ m h. record { fits = h; name = refl; rest = refl })
    & (λ m h. record { fits = h; name = refl; rest = refl })
    & (λ m h. record { fits = h; name = refl; rest = refl })
    & (λ m h. record { fits = h; name = refl; rest = refl })
    & (λ m h. record { fits = h; name = refl; rest = refl })
    & (λ m h. record { fits = h; name = refl; rest = refl })
    & (λ m h. record { fits = h; name = refl; rest = refl })
    & (λ m h. record { fits = h; name = refl; rest = refl })
    & (λ m h. record { fits = h; name = refl; rest = refl })
    & (λ m h. record { fits = h; name = refl; rest = refl })
    & (λ m h. record { fits = h; name = refl; rest = refl })
    & (λ m h. record { fits = h; name = refl; rest = refl })
    & (λ m h. record { fits = h; name = refl; rest = refl })
    & (λ x h. record { fits = h; name = refl; rest = refl })
    & (λ x h. record { fits = h; name = refl; rest = refl })
    & (λ z h. record { fits = h; name = refl; rest = refl })
    & (λ z h. record { fits = h; name = refl; rest = refl })
    & record { fits = tt; name = refl; rest = refl }
    & record { fits = tt; name = refl; rest = refl }
    & record { fits = tt; name = refl; rest = refl }
    & record { fits = tt; name = refl; rest = refl }
    & record { fits = tt; name = refl; rest = refl }
    & record { fits = tt; name = refl; rest = refl }
    & record { fits = tt; name = refl; rest = refl }
    & record { fits = tt; name = refl; rest = refl }
    & record { fits = tt; name = refl; rest = refl }
    & record { fits = tt; name = refl; rest = refl }
    & record { fits = tt; name = refl; rest = refl }
    & record { fits = tt; name = refl; rest = refl }
    & record { fits = tt; name = refl; rest = refl }
    & record { fits = tt; name = refl; rest = refl }
    & record { fits = tt; name = refl; rest = refl }
    & record { fits = tt; name = refl; rest = refl }
    & record { fits = tt; name = refl; rest = refl }
    & record { fits = tt; name = refl; rest = refl }
    & record { fits = tt; name = refl; rest = refl }
    & record { fits = tt; name = refl; rest = refl }
    & record { fits = tt; name = refl; rest = refl }
    & record { fits = tt; name = refl; rest = refl }
    & record { fits = tt; name = refl; rest = refl }
    & record { fits = tt; name = refl; rest = refl }
    & record { fits = tt; name = refl; rest = refl }
    & record { fits = tt; name = refl; rest = refl }
    & record { fits = tt; name = refl; rest = refl }
    & record { fits = tt; name = refl; rest = refl }
    & record { fits = tt; name = refl; rest = refl }
    & record { fits = tt; name = refl; rest = refl }
    & record { fits = tt; name = refl; rest = refl }
    & record { fits = tt; name = refl; rest = refl }
    & record { fits = tt; name = refl; rest = refl }
    & record { fits = tt; name = refl; rest = refl }
    & record { fits = tt; name = refl; rest = refl }
    & record { fits = tt; name = refl; rest = refl }
    & record { fits = tt; name = refl; rest = refl }
    & record { fits = tt; name = refl; rest = refl }
    & record { fits = tt; name = refl; rest = refl }
    & record { fits = tt; name = refl; rest = refl }
    & record { fits = tt; name = refl; rest = refl }
    & record { fits = tt; name = refl; rest = refl }
    & record { fits = tt; name = refl; rest = refl }
    & record { fits = tt; name = refl; rest = refl }
    & record { fits = tt; name = refl; rest = refl }
    & record { fits = tt; name = refl; rest = refl }
    & record { fits = tt; name = refl; rest = refl }
    & record { fits = tt; name = refl; rest = refl }
    & record { fits = tt; name = refl; rest = refl }
    & record { fits = tt; name = refl; rest = refl }
    & record { fits = tt; name = refl; rest = refl }
    & record { fits = tt; name = refl; rest = refl }
    & record { fits = tt; name = refl; rest = refl }
    & record { fits = tt; name = refl; rest = refl }
    & record { fits = tt; name = refl; rest = refl }
    & record { fits = tt; name = refl; rest = refl }
    & record { fits = tt; name = refl; rest = refl }
    & record { fits = tt; name = refl; rest = refl }
    & record { fits = tt; name = refl; rest = refl }
    & record { fits = tt; name = refl; rest = refl }
    & record { fits = tt; name = refl; rest = refl }
    & record { fits = tt; name = refl; rest = refl }
    & record { fits = tt; name = refl; rest = refl }
    & record { fits = tt; name = refl; rest = refl }
    & record { fits = tt; name = refl; rest = refl }
    & record { fits = tt; name = refl; rest = refl }
    & (λ z h. record { fits = h; name = refl; rest = refl })
    & record { fits = tt; name = refl; rest = refl }
    & (λ x h. record { fits = h; name = refl; rest = refl })
    & record { fits = tt; name = refl; rest = refl }
    & (λ x h. record { fits = h; name = refl; rest = refl })
    & (λ x h. record { fits = h; name = refl; rest = refl })
    & (λ x h. record { fits = h; name = refl; rest = refl })
    & (λ x y g h. record { fits = (g, h); name = refl; rest = refl })
    & (λ x h. record { fits = h; name = refl; rest = refl })
    & (λ x y g h. record { fits = (g, h); name = refl; rest = refl })
    & (λ x y g h. record { fits = (g, h); name = refl; rest = refl })
    & (λ x y g h. record { fits = (g, h); name = refl; rest = refl })
    & (λ x h. record { fits = h; name = refl; rest = refl })
    & (λ x y g h. record { fits = (g, h); name = refl; rest = refl })
    & (λ x h. record { fits = h; name = refl; rest = refl })
    & (λ x y g h. record { fits = (g, h); name = refl; rest = refl })
    & (λ x h. record { fits = h; name = refl; rest = refl })
    & (λ x y g h. record { fits = (g, h); name = refl; rest = refl })
    & (λ x h. record { fits = h; name = refl; rest = refl })
    & (λ x h. record { fits = h; name = refl; rest = refl })
    & (λ x h. record { fits = h; name = refl; rest = refl })
    & tt

found_with : (v : Bool) (r : Row) (rs : List Row) (w : Word) (q : Row) → bytes_eq w r.1 ≡ v → FormTells r.1 r.2 → (row_in rs w ≡ Some q → FormTells w q.2) → cond v (Some r) (row_in rs w) ≡ Some q → FormTells w q.2
found_with true r rs w q e h k g =
    let is : w ≡ r.1 = (bytes_eq-Decides w r.1).0 e in
    let same : r ≡ q = cc in
    subst (λ (v : Word). FormTells v q.2) (sym is) (subst (λ (p : Row). FormTells r.1 p.2) same h)
found_with false r rs w q e h k g = k g

found_tells : (rs : List Row) (w : Word) (q : Row) → EachTells rs → row_in rs w ≡ Some q → FormTells w q.2
found_tells [] w q h e = absurd cc
found_tells (r ∷ rs) w q h e = found_with (bytes_eq w r.1) r rs w q refl h.0 (found_tells rs w q h.1) e

to_has : (t u : Token) (w : Word) (vs ws : List Word) → Has t w vs → vs ≡ ws → t ≡ u → Has u w ws
to_has t u w vs ws h e s = subst (λ (v : Token). Has v w ws) s (subst (Has t w) e h)

accesses : IsListSpelling (λ (m : MemArg). two_words m.align m.offset) access_of ArgFits
accesses = record {
  sound = λ ws m e. (
      let a = mapped (λ (p : ℕ × ℕ). record { align = p.0; memory = 0; offset = p.1 }) (two_of (number_of 6) (number_of 64) ws) m e in
      let h = (twos (numbers 6 (omega arith)) (numbers 64 (omega arith))).sound ws a.0 a.1 in
      subst (λ (n : MemArg). ArgFits n × (two_words n.align n.offset ≡ ws)) a.2 ((h.0.0, refl, h.0.1), h.1));
  complete = λ m f. ap (option_map (λ (p : ℕ × ℕ). record { align = p.0; memory = 0; offset = p.1 })) ((twos (numbers 6 (omega arith)) (numbers 64 (omega arith))).complete (m.align, m.offset) (f.0, f.2))
      ∙ ap (λ (x : ℕ). Some (record { align = m.align; memory = x; offset = m.offset })) (sym f.1);
  clean = λ m f. (twos (numbers 6 (omega arith)) (numbers 64 (omega arith))).clean (m.align, m.offset) (f.0, f.2);
}

abbrev HandlerFits : ℕ × List Clause → Type 0
HandlerFits p = Index32 p.0 × Each ClauseFits p.1

handler_sound : (ws : List Word) (p : ℕ × List Clause) → handler_of ws ≡ Some p → HandlerFits p × (decimal p.0 ∷ map clause_word p.1 ≡ ws)
handler_sound [] p e = absurd cc
handler_sound (w ∷ ws) p e =
    let a = then_some (number_of 32 w) (λ t. option_map (λ (cs : List Clause). (t, cs)) (each_of clause_of ws)) p e in
    let b = mapped (λ (cs : List Clause). (a.0, cs)) (each_of clause_of ws) p a.2 in
    let n = indices.sound w a.0 a.1 in
    let m = each_sound clauses ws b.0 b.1 in
    subst (λ (q : ℕ × List Clause). HandlerFits q × (decimal q.0 ∷ map clause_word q.1 ≡ w ∷ ws)) b.2 ((n.0, m.0), rw (n.1, m.1) refl)

handler_complete : (t : ℕ) (cs : List Clause) → Index32 t → Each ClauseFits cs → handler_of (decimal t ∷ map clause_word cs) ≡ Some (t, cs)
handler_complete t cs f g = rw (indices.complete t f) (ap (option_map (λ (ds : List Clause). (t, ds))) (each_complete clauses cs g))

-- a form of one value, read by a spelling
by_spelling : {A : Type 0} {words : A → List Word} {of : List Word → Option A} {Fits : A → Type 0} → IsListSpelling words of Fits → (f : A → Token) (w : Word) (ws : List Word) (t : Token) → ((x : A) → Fits x → Has (f x) w (words x)) → option_map f (of ws) ≡ Some t → Has t w ws
by_spelling {A} {words} {of} s f w ws t h e =
    let a = mapped f (of ws) t e in
    let n = s.sound ws a.0 a.1 in
    to_has (f a.0) t w (words a.0) ws (h a.0 n.0) n.1 a.2

form_sound : (f : Form) (w : Word) (ws : List Word) (t : Token) → FormTells w f → form_of f ws ≡ Some t → Has t w ws
form_sound (Alone u) w ws t h e = let a = ended_told u t ws e in to_has u t w [] ws h (sym a.0) a.1
form_sound (Index f) w ws t h e = by_spelling (ones indices) f w ws t h e
form_sound (Indices f) w ws t h e = by_spelling (twos indices indices) (λ p. f p.0 p.1) w ws t (λ p g. h p.0 p.1 g.0 g.1) e
form_sound (Access f) w ws t h e = by_spelling accesses f w ws t h e
form_sound (Blocks f) w ws t h e = by_spelling (ones block_types) f w ws t h e
form_sound (Const32 f) w ws t h e = by_spelling (ones (signed_numbers 32 (omega arith))) f w ws t h e
form_sound (Const64 f) w ws t h e = by_spelling (ones (signed_numbers 64 (omega arith))) f w ws t h e
form_sound (Heap f) w ws t h e = by_spelling (ones heap_types) f w ws t h e
form_sound (Types f) w ws t h e = by_spelling (eaches val_types) f w ws t h e
form_sound (Labels f) w ws t h e =
    let a = mapped (λ (p : List ℕ × ℕ). f p.0 p.1) (labels_of ws) t e in
    let n = labels_sound ws a.0 a.1 in
    to_has (f a.0.0 a.0.1) t w (map decimal (a.0.0 ++ a.0.1 ∷ [])) ws (h a.0.0 a.0.1 n.0 n.1) n.2 a.2
form_sound (Clauses f) w ws t h e =
    let a = mapped (λ (p : ℕ × List Clause). f p.0 p.1) (handler_of ws) t e in
    let n = handler_sound ws a.0 a.1 in
    to_has (f a.0.0 a.0.1) t w (decimal a.0.0 ∷ map clause_word a.0.1) ws (h a.0.0 a.0.1 n.0.0 n.0.1) n.1 a.2

-- what is read of words is written so
pub token_sound : (w : Word) (ws : List Word) (t : Token) → token_of w ws ≡ Some t → TokenFits t × (token_name t ≡ w) × (immediates t ≡ ws)
unfolding token_of
token_sound w ws t e =
    let a = then_some (row_in rows w) (λ r. form_of r.2 ws) t e in
    let h = form_sound a.0.2 w ws t (found_tells rows w a.0 rows_tell a.1) a.2 in
    (h.fits, h.name, h.rest)

-- ## What is written is read

one_read : (f : ℕ → Token) (x : ℕ) → Index32 x → form_of (Index f) (decimal x ∷ []) ≡ Some (f x)
one_read f x h = ap (option_map f) (indices.complete x h)

two_read : (f : ℕ → ℕ → Token) (x y : ℕ) → Index32 x → Index32 y → form_of (Indices f) (two_words x y) ≡ Some (f x y)
two_read f x y g h = ap (option_map (λ (p : ℕ × ℕ). f p.0 p.1)) ((twos indices indices).complete (x, y) (g, h))

access_read : (f : MemArg → Token) (m : MemArg) → ArgFits m → form_of (Access f) (two_words m.align m.offset) ≡ Some (f m)
access_read f m h = ap (option_map f) (accesses.complete m h)

block_read : (f : BlockType → Token) (b : BlockType) → BlockFits b → form_of (Blocks f) (block_word b ∷ []) ≡ Some (f b)
block_read f b h = ap (option_map f) (block_types.complete b h)

resume_read : (t : ℕ) (cs : List Clause) → Index32 t → Each ClauseFits cs → form_of (Clauses (λ x ds. tok.Plain (op.Switching (switching.Resume x ds)))) (decimal t ∷ map clause_word cs) ≡ Some (tok.Plain (op.Switching (switching.Resume t cs)))
resume_read t cs g h = ap (option_map (λ (p : ℕ × List Clause). tok.Plain (op.Switching (switching.Resume p.0 p.1)))) (handler_complete t cs g h)

op_complete : (o : Op) → TokenFits (tok.Plain o) → token_of (token_name (tok.Plain o)) (immediates (tok.Plain o)) ≡ Some (tok.Plain o)
unfolding token_of rows
op_complete (op.Control control.Unreachable) h = refl
op_complete (op.Control control.Nop) h = refl
op_complete (op.Control (control.Br x)) h = one_read (λ x. tok.Plain (op.Control (control.Br x))) x h
op_complete (op.Control (control.BrIf x)) h = one_read (λ x. tok.Plain (op.Control (control.BrIf x))) x h
op_complete (op.Control control.Return) h = refl
op_complete (op.Control (control.Call x)) h = one_read (λ x. tok.Plain (op.Control (control.Call x))) x h
op_complete (op.Control (control.CallIndirect x y)) h = two_read (λ x y. tok.Plain (op.Control (control.CallIndirect x y))) x y h.0 h.1
op_complete (op.Control (control.CallRef x)) h = one_read (λ x. tok.Plain (op.Control (control.CallRef x))) x h
op_complete (op.Control (control.ReturnCall x)) h = one_read (λ x. tok.Plain (op.Control (control.ReturnCall x))) x h
op_complete (op.Control (control.ReturnCallIndirect x y)) h = two_read (λ x y. tok.Plain (op.Control (control.ReturnCallIndirect x y))) x y h.0 h.1
op_complete (op.Control (control.ReturnCallRef x)) h = one_read (λ x. tok.Plain (op.Control (control.ReturnCallRef x))) x h
op_complete (op.Parametric parametric.Drop) h = refl
op_complete (op.Parametric parametric.Select) h = refl
op_complete (op.Variable (variable.LocalGet x)) h = one_read (λ x. tok.Plain (op.Variable (variable.LocalGet x))) x h
op_complete (op.Variable (variable.LocalSet x)) h = one_read (λ x. tok.Plain (op.Variable (variable.LocalSet x))) x h
op_complete (op.Variable (variable.LocalTee x)) h = one_read (λ x. tok.Plain (op.Variable (variable.LocalTee x))) x h
op_complete (op.Variable (variable.GlobalGet x)) h = one_read (λ x. tok.Plain (op.Variable (variable.GlobalGet x))) x h
op_complete (op.Variable (variable.GlobalSet x)) h = one_read (λ x. tok.Plain (op.Variable (variable.GlobalSet x))) x h
op_complete (op.Table (table_op.Get x)) h = one_read (λ x. tok.Plain (op.Table (table_op.Get x))) x h
op_complete (op.Table (table_op.Set x)) h = one_read (λ x. tok.Plain (op.Table (table_op.Set x))) x h
op_complete (op.Memory (memory.Load load.I32Load m)) h = access_read (λ m. tok.Plain (op.Memory (memory.Load load.I32Load m))) m h
op_complete (op.Memory (memory.Load load.I64Load m)) h = access_read (λ m. tok.Plain (op.Memory (memory.Load load.I64Load m))) m h
op_complete (op.Memory (memory.Load load.I32Load8S m)) h = access_read (λ m. tok.Plain (op.Memory (memory.Load load.I32Load8S m))) m h
op_complete (op.Memory (memory.Load load.I32Load8U m)) h = access_read (λ m. tok.Plain (op.Memory (memory.Load load.I32Load8U m))) m h
op_complete (op.Memory (memory.Load load.I32Load16S m)) h = access_read (λ m. tok.Plain (op.Memory (memory.Load load.I32Load16S m))) m h
op_complete (op.Memory (memory.Load load.I32Load16U m)) h = access_read (λ m. tok.Plain (op.Memory (memory.Load load.I32Load16U m))) m h
op_complete (op.Memory (memory.Load load.I64Load8S m)) h = access_read (λ m. tok.Plain (op.Memory (memory.Load load.I64Load8S m))) m h
op_complete (op.Memory (memory.Load load.I64Load8U m)) h = access_read (λ m. tok.Plain (op.Memory (memory.Load load.I64Load8U m))) m h
op_complete (op.Memory (memory.Load load.I64Load16S m)) h = access_read (λ m. tok.Plain (op.Memory (memory.Load load.I64Load16S m))) m h
op_complete (op.Memory (memory.Load load.I64Load16U m)) h = access_read (λ m. tok.Plain (op.Memory (memory.Load load.I64Load16U m))) m h
op_complete (op.Memory (memory.Load load.I64Load32S m)) h = access_read (λ m. tok.Plain (op.Memory (memory.Load load.I64Load32S m))) m h
op_complete (op.Memory (memory.Load load.I64Load32U m)) h = access_read (λ m. tok.Plain (op.Memory (memory.Load load.I64Load32U m))) m h
op_complete (op.Memory (memory.Store store.I32Store m)) h = access_read (λ m. tok.Plain (op.Memory (memory.Store store.I32Store m))) m h
op_complete (op.Memory (memory.Store store.I64Store m)) h = access_read (λ m. tok.Plain (op.Memory (memory.Store store.I64Store m))) m h
op_complete (op.Memory (memory.Store store.I32Store8 m)) h = access_read (λ m. tok.Plain (op.Memory (memory.Store store.I32Store8 m))) m h
op_complete (op.Memory (memory.Store store.I32Store16 m)) h = access_read (λ m. tok.Plain (op.Memory (memory.Store store.I32Store16 m))) m h
op_complete (op.Memory (memory.Store store.I64Store8 m)) h = access_read (λ m. tok.Plain (op.Memory (memory.Store store.I64Store8 m))) m h
op_complete (op.Memory (memory.Store store.I64Store16 m)) h = access_read (λ m. tok.Plain (op.Memory (memory.Store store.I64Store16 m))) m h
op_complete (op.Memory (memory.Store store.I64Store32 m)) h = access_read (λ m. tok.Plain (op.Memory (memory.Store store.I64Store32 m))) m h
op_complete (op.Memory (memory.Size x)) h = one_read (λ x. tok.Plain (op.Memory (memory.Size x))) x h
op_complete (op.Memory (memory.Grow x)) h = one_read (λ x. tok.Plain (op.Memory (memory.Grow x))) x h
op_complete (op.Numeric (numeric.Eqz int.I32)) h = refl
op_complete (op.Numeric (numeric.Compare int.I32 compare.Eq)) h = refl
op_complete (op.Numeric (numeric.Compare int.I32 compare.Ne)) h = refl
op_complete (op.Numeric (numeric.Compare int.I32 compare.LtS)) h = refl
op_complete (op.Numeric (numeric.Compare int.I32 compare.LtU)) h = refl
op_complete (op.Numeric (numeric.Compare int.I32 compare.GtS)) h = refl
op_complete (op.Numeric (numeric.Compare int.I32 compare.GtU)) h = refl
op_complete (op.Numeric (numeric.Compare int.I32 compare.LeS)) h = refl
op_complete (op.Numeric (numeric.Compare int.I32 compare.LeU)) h = refl
op_complete (op.Numeric (numeric.Compare int.I32 compare.GeS)) h = refl
op_complete (op.Numeric (numeric.Compare int.I32 compare.GeU)) h = refl
op_complete (op.Numeric (numeric.Eqz int.I64)) h = refl
op_complete (op.Numeric (numeric.Compare int.I64 compare.Eq)) h = refl
op_complete (op.Numeric (numeric.Compare int.I64 compare.Ne)) h = refl
op_complete (op.Numeric (numeric.Compare int.I64 compare.LtS)) h = refl
op_complete (op.Numeric (numeric.Compare int.I64 compare.LtU)) h = refl
op_complete (op.Numeric (numeric.Compare int.I64 compare.GtS)) h = refl
op_complete (op.Numeric (numeric.Compare int.I64 compare.GtU)) h = refl
op_complete (op.Numeric (numeric.Compare int.I64 compare.LeS)) h = refl
op_complete (op.Numeric (numeric.Compare int.I64 compare.LeU)) h = refl
op_complete (op.Numeric (numeric.Compare int.I64 compare.GeS)) h = refl
op_complete (op.Numeric (numeric.Compare int.I64 compare.GeU)) h = refl
op_complete (op.Numeric (numeric.Unary int.I32 unary.Clz)) h = refl
op_complete (op.Numeric (numeric.Unary int.I32 unary.Ctz)) h = refl
op_complete (op.Numeric (numeric.Unary int.I32 unary.Popcnt)) h = refl
op_complete (op.Numeric (numeric.Binary int.I32 binary.Add)) h = refl
op_complete (op.Numeric (numeric.Binary int.I32 binary.Sub)) h = refl
op_complete (op.Numeric (numeric.Binary int.I32 binary.Mul)) h = refl
op_complete (op.Numeric (numeric.Binary int.I32 binary.DivS)) h = refl
op_complete (op.Numeric (numeric.Binary int.I32 binary.DivU)) h = refl
op_complete (op.Numeric (numeric.Binary int.I32 binary.RemS)) h = refl
op_complete (op.Numeric (numeric.Binary int.I32 binary.RemU)) h = refl
op_complete (op.Numeric (numeric.Binary int.I32 binary.And)) h = refl
op_complete (op.Numeric (numeric.Binary int.I32 binary.Or)) h = refl
op_complete (op.Numeric (numeric.Binary int.I32 binary.Xor)) h = refl
op_complete (op.Numeric (numeric.Binary int.I32 binary.Shl)) h = refl
op_complete (op.Numeric (numeric.Binary int.I32 binary.ShrS)) h = refl
op_complete (op.Numeric (numeric.Binary int.I32 binary.ShrU)) h = refl
op_complete (op.Numeric (numeric.Binary int.I32 binary.Rotl)) h = refl
op_complete (op.Numeric (numeric.Binary int.I32 binary.Rotr)) h = refl
op_complete (op.Numeric (numeric.Unary int.I64 unary.Clz)) h = refl
op_complete (op.Numeric (numeric.Unary int.I64 unary.Ctz)) h = refl
op_complete (op.Numeric (numeric.Unary int.I64 unary.Popcnt)) h = refl
op_complete (op.Numeric (numeric.Binary int.I64 binary.Add)) h = refl
op_complete (op.Numeric (numeric.Binary int.I64 binary.Sub)) h = refl
op_complete (op.Numeric (numeric.Binary int.I64 binary.Mul)) h = refl
op_complete (op.Numeric (numeric.Binary int.I64 binary.DivS)) h = refl
op_complete (op.Numeric (numeric.Binary int.I64 binary.DivU)) h = refl
op_complete (op.Numeric (numeric.Binary int.I64 binary.RemS)) h = refl
op_complete (op.Numeric (numeric.Binary int.I64 binary.RemU)) h = refl
op_complete (op.Numeric (numeric.Binary int.I64 binary.And)) h = refl
op_complete (op.Numeric (numeric.Binary int.I64 binary.Or)) h = refl
op_complete (op.Numeric (numeric.Binary int.I64 binary.Xor)) h = refl
op_complete (op.Numeric (numeric.Binary int.I64 binary.Shl)) h = refl
op_complete (op.Numeric (numeric.Binary int.I64 binary.ShrS)) h = refl
op_complete (op.Numeric (numeric.Binary int.I64 binary.ShrU)) h = refl
op_complete (op.Numeric (numeric.Binary int.I64 binary.Rotl)) h = refl
op_complete (op.Numeric (numeric.Binary int.I64 binary.Rotr)) h = refl
op_complete (op.Numeric (numeric.Convert convert.I32WrapI64)) h = refl
op_complete (op.Numeric (numeric.Convert convert.I64ExtendI32S)) h = refl
op_complete (op.Numeric (numeric.Convert convert.I64ExtendI32U)) h = refl
op_complete (op.Numeric (numeric.Convert convert.I32Extend8S)) h = refl
op_complete (op.Numeric (numeric.Convert convert.I32Extend16S)) h = refl
op_complete (op.Numeric (numeric.Convert convert.I64Extend8S)) h = refl
op_complete (op.Numeric (numeric.Convert convert.I64Extend16S)) h = refl
op_complete (op.Numeric (numeric.Convert convert.I64Extend32S)) h = refl
op_complete (op.Reference reference.IsNull) h = refl
op_complete (op.Reference (reference.Func x)) h = one_read (λ x. tok.Plain (op.Reference (reference.Func x))) x h
op_complete (op.Reference reference.AsNonNull) h = refl
op_complete (op.Control (control.BrOnNull x)) h = one_read (λ x. tok.Plain (op.Control (control.BrOnNull x))) x h
op_complete (op.Control (control.BrOnNonNull x)) h = one_read (λ x. tok.Plain (op.Control (control.BrOnNonNull x))) x h
op_complete (op.Switching (switching.ContNew x)) h = one_read (λ x. tok.Plain (op.Switching (switching.ContNew x))) x h
op_complete (op.Switching (switching.ContBind x y)) h = two_read (λ x y. tok.Plain (op.Switching (switching.ContBind x y))) x y h.0 h.1
op_complete (op.Switching (switching.Suspend x)) h = one_read (λ x. tok.Plain (op.Switching (switching.Suspend x))) x h
op_complete (op.Switching (switching.Switch x y)) h = two_read (λ x y. tok.Plain (op.Switching (switching.Switch x y))) x y h.0 h.1
op_complete (op.Memory (memory.Init x y)) h = two_read (λ x y. tok.Plain (op.Memory (memory.Init x y))) x y h.0 h.1
op_complete (op.Memory (memory.DataDrop x)) h = one_read (λ x. tok.Plain (op.Memory (memory.DataDrop x))) x h
op_complete (op.Memory (memory.Copy x y)) h = two_read (λ x y. tok.Plain (op.Memory (memory.Copy x y))) x y h.0 h.1
op_complete (op.Memory (memory.Fill x)) h = one_read (λ x. tok.Plain (op.Memory (memory.Fill x))) x h
op_complete (op.Table (table_op.Init x y)) h = two_read (λ x y. tok.Plain (op.Table (table_op.Init x y))) x y h.0 h.1
op_complete (op.Table (table_op.ElemDrop x)) h = one_read (λ x. tok.Plain (op.Table (table_op.ElemDrop x))) x h
op_complete (op.Table (table_op.Copy x y)) h = two_read (λ x y. tok.Plain (op.Table (table_op.Copy x y))) x y h.0 h.1
op_complete (op.Table (table_op.Grow x)) h = one_read (λ x. tok.Plain (op.Table (table_op.Grow x))) x h
op_complete (op.Table (table_op.Size x)) h = one_read (λ x. tok.Plain (op.Table (table_op.Size x))) x h
op_complete (op.Table (table_op.Fill x)) h = one_read (λ x. tok.Plain (op.Table (table_op.Fill x))) x h
op_complete (op.Control (control.BrTable ls l)) h = ap (option_map (λ (p : List ℕ × ℕ). tok.Plain (op.Control (control.BrTable p.0 p.1)))) (labels_complete ls l h.0 h.1)
op_complete (op.Parametric (parametric.SelectOf ts)) h = ap (option_map (λ (us : List ValType). tok.Plain (op.Parametric (parametric.SelectOf us)))) (each_complete val_types ts h)
op_complete (op.Numeric (numeric.I32Const z)) h = ap (option_map (λ (y : ℤ). tok.Plain (op.Numeric (numeric.I32Const y)))) ((signed_numbers 32 (omega arith)).complete z h)
op_complete (op.Numeric (numeric.I64Const z)) h = ap (option_map (λ (y : ℤ). tok.Plain (op.Numeric (numeric.I64Const y)))) ((signed_numbers 64 (omega arith)).complete z h)
op_complete (op.Reference (reference.Null z)) h = ap (option_map (λ (y : HeapType). tok.Plain (op.Reference (reference.Null y)))) (heap_types.complete z h)
op_complete (op.Switching (switching.Resume t cs)) h = resume_read t cs h.0 h.1

pub token_complete : (t : Token) → TokenFits t → token_of (token_name t) (immediates t) ≡ Some t
unfolding token_of rows
token_complete (tok.Plain o) h = op_complete o h
token_complete (tok.Block kind.Block b) h = block_read (λ b. tok.Block kind.Block b) b h
token_complete (tok.Block kind.Loop b) h = block_read (λ b. tok.Block kind.Loop b) b h
token_complete (tok.If b) h = block_read (λ b. tok.If b) b h
token_complete tok.Else h = refl
token_complete tok.End h = refl

-- ## Names

abbrev is_clean : Word → Bool
is_clean w = list_all (λ b. nat_lt 32 b) w

-- a name without separators, and no line of another kind begins with it
abbrev is_name : Word → Bool
is_name w = is_clean w && not (is_some (reader_in kinds w))

abbrev each_name : List Row → Bool
each_name [] = true
each_name (r ∷ rs) = is_name r.1 && each_name rs

names_with : (v : Bool) (r : Row) (rs : List Row) (w : Word) (q : Row) → bytes_eq w r.1 ≡ v → (is_name r.1 && each_name rs) ≡ true → (each_name rs ≡ true → row_in rs w ≡ Some q → is_name w ≡ true) → cond v (Some r) (row_in rs w) ≡ Some q → is_name w ≡ true
names_with true r rs w q e h k g = ap is_name ((bytes_eq-Decides w r.1).0 e) ∙ (both (is_name r.1) (each_name rs) h).0
names_with false r rs w q e h k g = k (both (is_name r.1) (each_name rs) h).1 g

found_name : (rs : List Row) (w : Word) (q : Row) → each_name rs ≡ true → row_in rs w ≡ Some q → is_name w ≡ true
found_name [] w q h e = absurd cc
found_name (r ∷ rs) w q h e = names_with (bytes_eq w r.1) r rs w q refl h (found_name rs w q) e

all_names : each_name rows ≡ true
unfolding rows
all_names = refl

name_passes : (t : Token) → TokenFits t → is_name (token_name t) ≡ true
unfolding token_of
name_passes t h =
    let a = then_some (row_in rows (token_name t)) (λ r. form_of r.2 (immediates t)) t (token_complete t h) in
    found_name rows (token_name t) a.0 all_names a.1

to_clean : (w : Word) → is_clean w ≡ true → IsClean w
to_clean [] e = tt
to_clean (b ∷ w) e = let a = both (nat_lt 32 b) (is_clean w) e in (ltb-true 32 b a.0, to_clean w a.1)

not_some : {A : Type 0} (o : Option A) → not (is_some o) ≡ true → o ≡ None
not_some None e = refl
not_some (Some x) e = absurd cc

-- no line of another kind begins with a name of an instruction
pub names_are_no_kinds : (w : Word) (q : Row) → row_in rows w ≡ Some q → reader_in kinds w ≡ None
names_are_no_kinds w q e = not_some (reader_in kinds w) (both (is_clean w) (not (is_some (reader_in kinds w))) (found_name rows w q all_names e)).1

pub no_kind : (t : Token) → TokenFits t → reader_in kinds (token_name t) ≡ None
no_kind t h = not_some (reader_in kinds (token_name t)) (both (is_clean (token_name t)) (not (is_some (reader_in kinds (token_name t)))) (name_passes t h)).1

small32 : (n : ℕ) → n < 2 ^ 32 → IsClean (decimal n)
small32 n h = indices.clean n h

arg_clean : (m : MemArg) → ArgFits m → Each IsClean (two_words m.align m.offset)
arg_clean m h = accesses.clean m h

op_clean : (o : Op) → TokenFits (tok.Plain o) → Each IsClean (immediates (tok.Plain o))
op_clean (op.Control (control.Br x)) h = (small32 x h, tt)
op_clean (op.Control (control.BrIf x)) h = (small32 x h, tt)
op_clean (op.Control (control.Call x)) h = (small32 x h, tt)
op_clean (op.Control (control.CallIndirect x y)) h = (small32 x h.0, (small32 y h.1, tt))
op_clean (op.Control (control.CallRef x)) h = (small32 x h, tt)
op_clean (op.Control (control.ReturnCall x)) h = (small32 x h, tt)
op_clean (op.Control (control.ReturnCallIndirect x y)) h = (small32 x h.0, (small32 y h.1, tt))
op_clean (op.Control (control.ReturnCallRef x)) h = (small32 x h, tt)
op_clean (op.Variable (variable.LocalGet x)) h = (small32 x h, tt)
op_clean (op.Variable (variable.LocalSet x)) h = (small32 x h, tt)
op_clean (op.Variable (variable.LocalTee x)) h = (small32 x h, tt)
op_clean (op.Variable (variable.GlobalGet x)) h = (small32 x h, tt)
op_clean (op.Variable (variable.GlobalSet x)) h = (small32 x h, tt)
op_clean (op.Table (table_op.Get x)) h = (small32 x h, tt)
op_clean (op.Table (table_op.Set x)) h = (small32 x h, tt)
op_clean (op.Memory (memory.Size x)) h = (small32 x h, tt)
op_clean (op.Memory (memory.Grow x)) h = (small32 x h, tt)
op_clean (op.Reference (reference.Func x)) h = (small32 x h, tt)
op_clean (op.Control (control.BrOnNull x)) h = (small32 x h, tt)
op_clean (op.Control (control.BrOnNonNull x)) h = (small32 x h, tt)
op_clean (op.Switching (switching.ContNew x)) h = (small32 x h, tt)
op_clean (op.Switching (switching.ContBind x y)) h = (small32 x h.0, (small32 y h.1, tt))
op_clean (op.Switching (switching.Suspend x)) h = (small32 x h, tt)
op_clean (op.Switching (switching.Switch x y)) h = (small32 x h.0, (small32 y h.1, tt))
op_clean (op.Memory (memory.Init x y)) h = (small32 x h.0, (small32 y h.1, tt))
op_clean (op.Memory (memory.DataDrop x)) h = (small32 x h, tt)
op_clean (op.Memory (memory.Copy x y)) h = (small32 x h.0, (small32 y h.1, tt))
op_clean (op.Memory (memory.Fill x)) h = (small32 x h, tt)
op_clean (op.Table (table_op.Init x y)) h = (small32 x h.0, (small32 y h.1, tt))
op_clean (op.Table (table_op.ElemDrop x)) h = (small32 x h, tt)
op_clean (op.Table (table_op.Copy x y)) h = (small32 x h.0, (small32 y h.1, tt))
op_clean (op.Table (table_op.Grow x)) h = (small32 x h, tt)
op_clean (op.Table (table_op.Size x)) h = (small32 x h, tt)
op_clean (op.Table (table_op.Fill x)) h = (small32 x h, tt)
op_clean (op.Memory (memory.Load o m)) h = arg_clean m h
op_clean (op.Memory (memory.Store o m)) h = arg_clean m h
op_clean (op.Control control.Unreachable) h = tt
op_clean (op.Control control.Nop) h = tt
op_clean (op.Control control.Return) h = tt
op_clean (op.Control (control.BrTable ls l)) h = labels_clean ls l h.0 h.1
op_clean (op.Parametric parametric.Drop) h = tt
op_clean (op.Parametric parametric.Select) h = tt
op_clean (op.Parametric (parametric.SelectOf ts)) h = each_clean val_types ts h
op_clean (op.Numeric (numeric.I32Const z)) h = ((signed_numbers 32 (omega arith)).clean z h, tt)
op_clean (op.Numeric (numeric.I64Const z)) h = ((signed_numbers 64 (omega arith)).clean z h, tt)
op_clean (op.Numeric (numeric.Eqz t)) h = tt
op_clean (op.Numeric (numeric.Compare t o)) h = tt
op_clean (op.Numeric (numeric.Unary t o)) h = tt
op_clean (op.Numeric (numeric.Binary t o)) h = tt
op_clean (op.Numeric (numeric.Convert o)) h = tt
op_clean (op.Reference (reference.Null z)) h = (heap_types.clean z h, tt)
op_clean (op.Reference reference.IsNull) h = tt
op_clean (op.Reference reference.AsNonNull) h = tt
op_clean (op.Switching (switching.Resume t cs)) h = (small32 t h.0, each_clean clauses cs h.1)

immediates_clean : (t : Token) → TokenFits t → Each IsClean (immediates t)
immediates_clean (tok.Plain o) h = op_clean o h
immediates_clean (tok.Block k b) h = (block_types.clean b h, tt)
immediates_clean (tok.If b) h = (block_types.clean b h, tt)
immediates_clean tok.Else h = tt
immediates_clean tok.End h = tt

pub token_clean : (t : Token) → TokenFits t → IsClean (token_name t) × Each IsClean (immediates t)
token_clean t h = (to_clean (token_name t) (both (is_clean (token_name t)) (not (is_some (reader_in kinds (token_name t)))) (name_passes t h)).0, immediates_clean t h)

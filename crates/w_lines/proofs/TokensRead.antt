-- Instructions of a line are what their opcodes make of what stands behind the names.
use Rattle.std.proofs.Common.{◌≡◌, ℕ, ◌<◌, List, [], ◌∷◌, ◌++◌, Option, Some, None, Result, Ok, Err, refl, sym, ap, subst, ◌∙◌, ◌^◌, arith, ℤ}
use Rattle.std.proofs.lemmas.Bool.{lt-ltb}
use Rattle.std.proofs.lemmas.List.{append-nil}
use Rattle.std.specs.Prelude.{option_map, IfOk}
use Rattle.w_leb.specs.Formats.{number}
use Rattle.w_leb.specs.Number.{Unsigned}
use Rattle.w_types.specs.declared.types.HeapType.{HeapType}
use Rattle.w_types.specs.declared.types.ValType.{ValType}
use Rattle.w_syntax.specs.declared.memory_instructions.MemArg.{MemArg}
use Rattle.w_syntax.specs.declared.instructions.BlockType.{BlockType}
use Rattle.w_syntax.specs.declared.instructions.Clause.{Clause}
use Rattle.w_syntax.specs.declared.instructions.Token.{Token}
use Rattle.w_syntax.specs.Tokens.{token, memarg}
use Rattle.w_words.specs.Words.{Word, ◌>>=◌, one_of, two_of}
use Rattle.w_words.specs.Numbers.{number_of}
use Rattle.w_lines.specs.declared.names.Immediates.{Immediates}
use Rattle.w_lines.specs.declared.names.Immediates.TheVariants as kind
use Rattle.w_lines.specs.declared.names.NameRow.{NameRow}
use Rattle.w_lines.specs.Instructions.{Form, Alone, Index, Indices, Access, Const32, Const64, Heap, Types, Labels, Clauses, Blocks, Row, rows, row_in, form_of, token_of}
use Rattle.w_lines.specs.NameTable.{kind_of, IsRow, opcode_bytes, FormReads, Makes, ReadsAs}
use Rattle.w_lines.proofs.RowsRead.{row_reads}

pub ok_map : {A E : Type 0} {P Q : A → Type 0} (r : Result A E) → IfOk r P → ((x : A) → P x → Q x) → IfOk r Q
ok_map (Ok x) h f = f x h
ok_map (Err e) h f = tt

-- ## Alone, with an index, with two

-- words behind an instruction that has none
pub alone_none : (k : ℕ) (w : Word) (ws : List Word) (t : Token) → Makes k (Alone t) (w ∷ ws) None
alone_none k w ws t h = refl

pub alone_some : (k : ℕ) (o : Option Token) (t : Token) → ReadsAs (opcode_bytes k ++ ([] ++ [])) o → Makes k (Alone t) [] o
alone_some k o t r h = r t (ap token.read (append-nil (opcode_bytes k)) ∙ h)

-- a number is read off its spelling
number_read : (bs rest : List ℕ) (x : ℕ) → Unsigned 32 bs x → (number 32).read (bs ++ rest) ≡ Some (x, rest)
number_read bs rest x h = (number 32).exact.complete bs x rest h

pub index_none : (k : ℕ) (ws : List Word) (f : ℕ → Token) → one_of (number_of 32) ws ≡ None → Makes k (Index f) ws None
index_none k ws f e h = sym (ap (option_map f) e)

pub index_some : (k x : ℕ) (ws : List Word) (bs items : List ℕ) (o : Option Token) (f : ℕ → Token) → one_of (number_of 32) ws ≡ Some x → Unsigned 32 items x → bs ≡ items → ReadsAs (opcode_bytes k ++ (bs ++ [])) o → Makes k (Index f) ws o
index_some k x ws bs items o f e u s r h = r (f x) (h (bs ++ []) [] x (number_read bs [] x (subst (λ (l : List ℕ). Unsigned 32 l x) (sym s) u))) ∙ sym (ap (option_map f) e)

pub indices_none : (k : ℕ) (ws : List Word) (f : ℕ → ℕ → Token) → two_of (number_of 32) (number_of 32) ws ≡ None → Makes k (Indices f) ws None
indices_none k ws f e h = sym (ap (option_map (λ (p : ℕ × ℕ). f p.0 p.1)) e)

pub indices_some : (k x y : ℕ) (ws : List Word) (bs cs first second : List ℕ) (o : Option Token) (f : ℕ → ℕ → Token) → two_of (number_of 32) (number_of 32) ws ≡ Some (x, y) → Unsigned 32 first x → Unsigned 32 second y → bs ≡ first → cs ≡ second → ReadsAs (opcode_bytes k ++ (bs ++ cs)) o → Makes k (Indices f) ws o
indices_some k x y ws bs cs first second o f e g i s q r h =
    let u = subst (λ (l : List ℕ). Unsigned 32 l x) (sym s) g in
    let v = subst (λ (l : List ℕ). Unsigned 32 l y) (sym q) i in
    let c : (number 32).read cs ≡ Some (y, []) = ap (number 32).read (sym (append-nil cs)) ∙ number_read cs [] y v in
    r (f x y) (h (bs ++ cs) cs [] x y (number_read bs cs x u) c) ∙ sym (ap (option_map (λ (p : ℕ × ℕ). f p.0 p.1)) e)

-- ## With the alignment and the offset of an access

access_read : (a o : ℕ) (bs cs : List ℕ) → a < 2 ^ 6 → Unsigned 32 bs a → Unsigned 64 cs o → memarg.read (bs ++ cs) ≡ Some (record { align = a; memory = 0; offset = o }, [])
unfolding memarg
access_read a o bs cs f u v =
    ap memarg.read (sym (append-nil (bs ++ cs)))
    ∙ memarg.exact.complete (bs ++ cs) (record { align = a; memory = 0; offset = o }) [] ((a, o), (bs, cs, refl, (u, lt-ltb a 64 (omega (arith, f))), v), refl)

pub access_none : (k : ℕ) (ws : List Word) (f : MemArg → Token) → two_of (number_of 6) (number_of 64) ws ≡ None → Makes k (Access f) ws None
access_none k ws f e h = sym (ap (λ (o : Option (ℕ × ℕ)). option_map f (option_map (λ (p : ℕ × ℕ). record { align = p.0; memory = 0; offset = p.1 }) o)) e)

pub access_some : (k a o : ℕ) (ws : List Word) (bs cs first second : List ℕ) (t : Option Token) (f : MemArg → Token) → two_of (number_of 6) (number_of 64) ws ≡ Some (a, o) → a < 2 ^ 6 → Unsigned 32 first a → Unsigned 64 second o → bs ≡ first → cs ≡ second → ReadsAs (opcode_bytes k ++ (bs ++ cs)) t → Makes k (Access f) ws t
access_some k a o ws bs cs first second t f e lt g i s q r h =
    let u = subst (λ (l : List ℕ). Unsigned 32 l a) (sym s) g in
    let v = subst (λ (l : List ℕ). Unsigned 64 l o) (sym q) i in
    r (f (record { align = a; memory = 0; offset = o })) (h (bs ++ cs) [] (record { align = a; memory = 0; offset = o }) (access_read a o bs cs lt u v))
    ∙ sym (ap (λ (p : Option (ℕ × ℕ)). option_map f (option_map (λ (q : ℕ × ℕ). record { align = q.0; memory = 0; offset = q.1 }) p)) e)

-- ## By the row of the name

-- what is known of the token, by what stands behind the name
abbrev Told : Immediates → (Form → Type 0) → Type 0
Told kind.None P = (t : Token) → P (Alone t)
Told kind.Index P = (f : ℕ → Token) → P (Index f)
Told kind.Indices P = (f : ℕ → ℕ → Token) → P (Indices f)
Told kind.Access P = (f : MemArg → Token) → P (Access f)
Told kind.Block P = (f : BlockType → Token) → P (Blocks f)
Told kind.Const32 P = (f : ℤ → Token) → P (Const32 f)
Told kind.Const64 P = (f : ℤ → Token) → P (Const64 f)
Told kind.Heap P = (f : HeapType → Token) → P (Heap f)
Told kind.Types P = (f : List ValType → Token) → P (Types f)
Told kind.Labels P = (f : List ℕ → ℕ → Token) → P (Labels f)
Told kind.Clauses P = (f : ℕ → List Clause → Token) → P (Clauses f)

told : (P : Form → Type 0) (f : Form) → Told (kind_of f) P → P f
told P (Alone t) h = h t
told P (Index f) h = h f
told P (Indices f) h = h f
told P (Access f) h = h f
told P (Blocks f) h = h f
told P (Const32 f) h = h f
told P (Const64 f) h = h f
told P (Heap f) h = h f
told P (Types f) h = h f
told P (Labels f) h = h f
told P (Clauses f) h = h f

row_token : (w : Word) (ws : List Word) (q : Row) → row_in rows w ≡ Some q → token_of w ws ≡ form_of q.2 ws
unfolding token_of
row_token w ws q e = ap (λ (o : Option Row). o >>= λ r. form_of r.2 ws) e

-- the token of a name, where it is known by what stands behind it
pub token_is : (w : Word) (ws : List Word) (r : NameRow) (m : Immediates) (o : Option Token) → IsRow w r → r.immediates ≡ m → Told m (λ f. Makes r.opcode f ws o) → o ≡ token_of w ws
token_is w ws r m o i s h =
    let q = i.row in
    let k : kind_of q.2 ≡ m = i.immediates ∙ s in
    let made : Makes r.opcode q.2 ws o = told (λ f. Makes r.opcode f ws o) q.2 (subst (λ (n : Immediates). Told n (λ f. Makes r.opcode f ws o)) (sym k) h) in
    made (subst (λ (n : ℕ). FormReads n q.2) i.opcode (row_reads w q i.here)) ∙ sym (row_token w ws q i.here)

pub no_token : (w : Word) (ws : List Word) → row_in rows w ≡ None → None ≡ token_of w ws
unfolding token_of
no_token w ws e = sym (ap (λ (o : Option Row). o >>= λ r. form_of r.2 ws) e)

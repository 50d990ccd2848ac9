-- The lines of a module are read as the module.
use Rattle.std.proofs.Common.{◌≡◌, ℕ, suc, ◌+◌, ◌<◌, ◌≤◌, ◌^◌, Bool, true, false, ◌&&◌, cond, List, [], ◌∷◌, ◌++◌, length, map, Option, Some, None, refl, sym, ap, subst, ◌∙◌, append_assoc, arith}
use Rattle.std.specs.Prelude.{⊤, nat_le, nat_eq}
use Rattle.std.specs.List.{flat_map}
use Rattle.std.proofs.lemmas.List.{append-nil, map-append}
use Rattle.std.proofs.lemmas.Bool.{le-leb, lt-ltb}
use Rattle.w_types.specs.declared.types.SubType.{SubType}
use Rattle.w_syntax.specs.declared.instructions.BlockKind.{BlockKind}
use Rattle.w_syntax.specs.declared.instructions.BlockType.{BlockType}
use Rattle.w_syntax.specs.declared.instructions.Token.{Token}
use Rattle.w_syntax.specs.declared.instructions.Token.TheVariants as tok
use Rattle.w_syntax.specs.declared.locals.LocalRun.{LocalRun}
use Rattle.w_syntax.specs.declared.module.Module.{Module}
use Rattle.w_syntax.specs.Types.{group_of}
use Rattle.w_syntax.specs.Code.{Code, Done, Plain, Block, If, IfElse, after}
use Rattle.w_syntax.specs.Expr.{tokens, Path, Top, InBlock, InThen, InElse, Outcome, More, Finished, step as token_step}
use Rattle.w_syntax.specs.ExprLaws.{after-done, after_assoc}
use Rattle.w_syntax.specs.Locals.{total}
use Rattle.w_syntax.specs.LocalsLaws.{IsJoined}
use Rattle.w_types.specs.declared.types.RefType.{RefType}
use Rattle.w_syntax.specs.declared.module.TableType.{TableType}
use Rattle.w_syntax.specs.declared.module.GlobalType.{GlobalType}
use Rattle.w_syntax.specs.declared.module.ElemMode.{ElemMode}
use Rattle.w_syntax.specs.declared.module.ElemMode.TheVariants as elem_mode
use Rattle.w_syntax.specs.declared.module.DataMode.{DataMode}
use Rattle.w_syntax.specs.declared.module.DataMode.TheVariants as data_mode
use Rattle.w_lines.specs.declared.line.Mode.TheVariants as mode
use Rattle.w_lines.specs.declared.line.Line.{Line}
use Rattle.w_lines.specs.declared.line.Line.TheVariants as line
use Rattle.w_text.specs.declared.item.Item.{Item}
use Rattle.w_text.specs.declared.item.Item.TheVariants.{Group, Imported, TableItem, Memory, TagItem, Global, Exported, Start, Elements, Bytes, Function}
use Rattle.w_text.specs.Items.{Head, TableHead, GlobalHead, ElemHead, DataHead, FunctionHead, expr_lines, exprs_lines, group_lines, head_lines, headed, table_lines, elem_lines, data_lines, item_lines}
use Rattle.w_text.specs.Machine.{Between, InGroup, InLocals, InExprs, Next, Opens, Gives, Refuses, item_of, wanted, exprs_on, expr_on, head_rank, rank, rank_after, add, unlike_last, may_follow, begin, next, State, Reading, placed, step, run, run_on}
use Rattle.w_text.proofs.Told.{FewJoined, ItemFits}

-- ## Expressions

le_self : (n : ℕ) → nat_le n n ≡ true
le_self n = le-leb n n (omega arith)

regroup : (c d r e : Code) → after d r ≡ e → after (after c d) r ≡ after c e
regroup c d r e h = after_assoc c d r ∙ ap (after c) h

one_plain : (o : _) (r : Code) → after (Plain o Done) r ≡ Plain o r
unfolding after
one_plain o r = refl

one_block : (kind : BlockKind) (b : BlockType) (x r : Code) → after (Block kind b x Done) r ≡ Block kind b x r
unfolding after
one_block kind b x r = refl

one_if : (b : BlockType) (x r : Code) → after (If b x Done) r ≡ If b x r
unfolding after
one_if b x r = refl

one_else : (b : BlockType) (x y r : Code) → after (IfElse b x y Done) r ≡ IfElse b x y r
unfolding after
one_else b x y r = refl

nothing_first : (x : Code) → after Done x ≡ x
unfolding after
nothing_first x = refl

-- lines of tokens with one among them
split : (us : List Token) (t : Token) (vs : List Token) (ls : List Line) → map line.Token (us ++ t ∷ vs) ++ ls ≡ map line.Token us ++ line.Token t ∷ (map line.Token vs ++ ls)
split us t vs ls = ap (λ (k : List Line). k ++ ls) (map-append line.Token us (t ∷ vs)) ∙ append_assoc (map line.Token us) (map line.Token (t ∷ vs)) ls

-- the state in an expression
abbrev inside : Module → Head → ℕ → List Code → Path → Code → State
inside m h n cs p c = Reading (head_rank h) m (InExprs h n cs p c)

-- what follows of a state that there may be
abbrev onward : List Line → Option State → Option State
onward ls o = run_on (λ s. run s ls) o

one_line : (m : Module) (h : Head) (n : ℕ) (cs : List Code) (p : Path) (c : Code) (t : Token) (ls : List Line) → run (inside m h n cs p c) (line.Token t ∷ ls) ≡ onward ls (placed (head_rank h) m (expr_on h n cs (token_step p c t)))
unfolding run step next
one_line m h n cs p c t ls = refl

placed_inside : (m : Module) (h : Head) (n : ℕ) (cs : List Code) (p : Path) (c : Code) (ls : List Line) → onward ls (placed (head_rank h) m (Opens (InExprs h n cs p c))) ≡ run (inside m h n cs p c) ls
placed_inside m h n cs p c ls = ap (λ (b : Bool). onward ls (cond b (Some (inside m h n cs p c)) None)) (le_self (head_rank h))

on_more : (m : Module) (h : Head) (n : ℕ) (cs : List Code) (p q : Path) (c d : Code) (t : Token) (ls : List Line) → token_step p c t ≡ More q d → run (inside m h n cs p c) (line.Token t ∷ ls) ≡ run (inside m h n cs q d) ls
on_more m h n cs p q c d t ls e = one_line m h n cs p c t ls ∙ ap (λ (o : Outcome). onward ls (placed (head_rank h) m (expr_on h n cs o))) e ∙ placed_inside m h n cs q d ls

step_plain : (p : Path) (c : Code) (o : _) → token_step p c (tok.Plain o) ≡ More p (after c (Plain o Done))
unfolding token_step
step_plain p c o = refl

step_block : (p : Path) (c : Code) (kind : BlockKind) (b : BlockType) → token_step p c (tok.Block kind b) ≡ More (InBlock p c kind b) Done
unfolding token_step
step_block p c kind b = refl

step_if : (p : Path) (c : Code) (b : BlockType) → token_step p c (tok.If b) ≡ More (InThen p c b) Done
unfolding token_step
step_if p c b = refl

step_else : (p : Path) (d c : Code) (b : BlockType) → token_step (InThen p d b) c tok.Else ≡ More (InElse p d b c) Done
unfolding token_step
step_else p d c b = refl

end_block : (p : Path) (d c : Code) (kind : BlockKind) (b : BlockType) → token_step (InBlock p d kind b) c tok.End ≡ More p (after d (Block kind b c Done))
unfolding token_step
end_block p d c kind b = refl

end_then : (p : Path) (d c : Code) (b : BlockType) → token_step (InThen p d b) c tok.End ≡ More p (after d (If b c Done))
unfolding token_step
end_then p d c b = refl

end_else : (p : Path) (d x c : Code) (b : BlockType) → token_step (InElse p d b x) c tok.End ≡ More p (after d (IfElse b x c Done))
unfolding token_step
end_else p d x c b = refl

end_top : (c : Code) → token_step Top c tok.End ≡ Finished c
unfolding token_step
end_top c = refl

tokens_run : (m : Module) (h : Head) (n : ℕ) (cs : List Code) (e : Code) (p : Path) (c : Code) (ls : List Line) → run (inside m h n cs p c) (map line.Token (tokens e) ++ ls) ≡ run (inside m h n cs p (after c e)) ls
unfolding tokens
tokens_run m h n cs Done p c ls = ap (λ (x : Code). run (inside m h n cs p x) ls) (sym (after-done c))
tokens_run m h n cs (Plain o r) p c ls =
    on_more m h n cs p p c (after c (Plain o Done)) (tok.Plain o) (map line.Token (tokens r) ++ ls) (step_plain p c o)
    ∙ tokens_run m h n cs r p (after c (Plain o Done)) ls
    ∙ ap (λ (x : Code). run (inside m h n cs p x) ls) (regroup c (Plain o Done) r (Plain o r) (one_plain o r))
tokens_run m h n cs (Block kind b x r) p c ls =
    let q = InBlock p c kind b in
    let rest = map line.Token (tokens r) ++ ls in
    on_more m h n cs p q c Done (tok.Block kind b) (map line.Token (tokens x ++ tok.End ∷ tokens r) ++ ls) (step_block p c kind b)
    ∙ ap (λ (k : List Line). run (inside m h n cs q Done) k) (split (tokens x) tok.End (tokens r) ls)
    ∙ tokens_run m h n cs x q Done (line.Token tok.End ∷ rest)
    ∙ ap (λ (y : Code). run (inside m h n cs q y) (line.Token tok.End ∷ rest)) (nothing_first x)
    ∙ on_more m h n cs q p x (after c (Block kind b x Done)) tok.End rest (end_block p c x kind b)
    ∙ tokens_run m h n cs r p (after c (Block kind b x Done)) ls
    ∙ ap (λ (y : Code). run (inside m h n cs p y) ls) (regroup c (Block kind b x Done) r (Block kind b x r) (one_block kind b x r))
tokens_run m h n cs (If b x r) p c ls =
    let q = InThen p c b in
    let rest = map line.Token (tokens r) ++ ls in
    on_more m h n cs p q c Done (tok.If b) (map line.Token (tokens x ++ tok.End ∷ tokens r) ++ ls) (step_if p c b)
    ∙ ap (λ (k : List Line). run (inside m h n cs q Done) k) (split (tokens x) tok.End (tokens r) ls)
    ∙ tokens_run m h n cs x q Done (line.Token tok.End ∷ rest)
    ∙ ap (λ (y : Code). run (inside m h n cs q y) (line.Token tok.End ∷ rest)) (nothing_first x)
    ∙ on_more m h n cs q p x (after c (If b x Done)) tok.End rest (end_then p c x b)
    ∙ tokens_run m h n cs r p (after c (If b x Done)) ls
    ∙ ap (λ (y : Code). run (inside m h n cs p y) ls) (regroup c (If b x Done) r (If b x r) (one_if b x r))
tokens_run m h n cs (IfElse b x y r) p c ls =
    let q = InThen p c b in
    let s = InElse p c b x in
    let rest = map line.Token (tokens r) ++ ls in
    on_more m h n cs p q c Done (tok.If b) (map line.Token (tokens x ++ tok.Else ∷ (tokens y ++ tok.End ∷ tokens r)) ++ ls) (step_if p c b)
    ∙ ap (λ (k : List Line). run (inside m h n cs q Done) k) (split (tokens x) tok.Else (tokens y ++ tok.End ∷ tokens r) ls)
    ∙ tokens_run m h n cs x q Done (line.Token tok.Else ∷ (map line.Token (tokens y ++ tok.End ∷ tokens r) ++ ls))
    ∙ ap (λ (z : Code). run (inside m h n cs q z) (line.Token tok.Else ∷ (map line.Token (tokens y ++ tok.End ∷ tokens r) ++ ls))) (nothing_first x)
    ∙ on_more m h n cs q s x Done tok.Else (map line.Token (tokens y ++ tok.End ∷ tokens r) ++ ls) (step_else p c x b)
    ∙ ap (λ (k : List Line). run (inside m h n cs s Done) k) (split (tokens y) tok.End (tokens r) ls)
    ∙ tokens_run m h n cs y s Done (line.Token tok.End ∷ rest)
    ∙ ap (λ (z : Code). run (inside m h n cs s z) (line.Token tok.End ∷ rest)) (nothing_first y)
    ∙ on_more m h n cs s p y (after c (IfElse b x y Done)) tok.End rest (end_else p c x y b)
    ∙ tokens_run m h n cs r p (after c (IfElse b x y Done)) ls
    ∙ ap (λ (z : Code). run (inside m h n cs p z) ls) (regroup c (IfElse b x y Done) r (IfElse b x y r) (one_else b x y r))

expr_run : (m : Module) (h : Head) (n : ℕ) (cs : List Code) (e : Code) (ls : List Line) → run (inside m h n cs Top Done) (expr_lines e ++ ls) ≡ onward ls (placed (head_rank h) m (exprs_on h n (cs ++ e ∷ [])))
unfolding expr_lines
expr_run m h n cs e ls =
    ap (λ (k : List Line). run (inside m h n cs Top Done) k) (split (tokens e) tok.End [] ls)
    ∙ tokens_run m h n cs e Top Done (line.Token tok.End ∷ ls)
    ∙ ap (λ (x : Code). run (inside m h n cs Top x) (line.Token tok.End ∷ ls)) (nothing_first e)
    ∙ one_line m h n cs Top e tok.End ls
    ∙ ap (λ (o : Outcome). onward ls (placed (head_rank h) m (expr_on h n cs o))) (end_top e)

exprs_run : (m : Module) (h : Head) (es cs : List Code) (e : Code) (ls : List Line) → run (inside m h (length es) cs Top Done) (exprs_lines (e ∷ es) ++ ls) ≡ onward ls (placed (head_rank h) m (Gives (item_of h (cs ++ e ∷ es))))
unfolding exprs_lines
exprs_run m h [] cs e ls = ap (λ (k : List Line). run (inside m h 0 cs Top Done) (k ++ ls)) (append-nil (expr_lines e)) ∙ expr_run m h 0 cs e ls
exprs_run m h (d ∷ ds) cs e ls =
    ap (λ (k : List Line). run (inside m h (suc (length ds)) cs Top Done) k) (append_assoc (expr_lines e) (exprs_lines (d ∷ ds)) ls)
    ∙ expr_run m h (suc (length ds)) cs e (exprs_lines (d ∷ ds) ++ ls)
    ∙ placed_inside m h (length ds) (cs ++ e ∷ []) Top Done (exprs_lines (d ∷ ds) ++ ls)
    ∙ exprs_run m h ds (cs ++ e ∷ []) d ls
    ∙ ap (λ (k : List Code). onward ls (placed (head_rank h) m (Gives (item_of h k)))) (append_assoc cs (e ∷ []) (d ∷ ds))

-- ## Items

-- behind an item
abbrev behind : Item → Module → State
behind it m = Reading (rank_after it) (add it m) Between

gives_run : (it : Item) (k : ℕ) (m : Module) (ls : List Line) → k ≤ rank it → onward ls (placed k m (Gives it)) ≡ run (behind it m) ls
gives_run it k m ls le = ap (λ (b : Bool). onward ls (cond b (Some (behind it m)) None)) (le-leb k (rank it) le)

begin_run : (l : Line) (k : ℕ) (m : Module) (ls : List Line) → run (Reading k m Between) (l ∷ ls) ≡ onward ls (placed k m (begin l))
unfolding run step next
begin_run l k m ls = refl

-- an item of one line
line_run : (l : Line) (it : Item) (k : ℕ) (m : Module) (ls : List Line) → begin l ≡ Gives it → k ≤ rank it → run (Reading k m Between) (l ∷ ls) ≡ run (behind it m) ls
line_run l it k m ls e le = begin_run l k m ls ∙ ap (λ (n : Next). onward ls (placed k m n)) e ∙ gives_run it k m ls le

pub rank_of_item : (h : Head) (cs : List Code) → rank (item_of h cs) ≡ head_rank h
rank_of_item (TableHead t) cs = refl
rank_of_item (GlobalHead g) cs = refl
rank_of_item (ElemHead (mode.Active x) r k) cs = refl
rank_of_item (ElemHead mode.Passive r k) cs = refl
rank_of_item (ElemHead mode.Declarative r k) cs = refl
rank_of_item (DataHead x b) cs = refl
rank_of_item (FunctionHead x ls) cs = refl

opens_run : (h : Head) (n k : ℕ) (m : Module) (ls : List Line) → k ≤ head_rank h → onward ls (placed k m (Opens (InExprs h n [] Top Done))) ≡ run (inside m h n [] Top Done) ls
opens_run h n k m ls le = ap (λ (b : Bool). onward ls (cond b (Some (inside m h n [] Top Done)) None)) (le-leb k (head_rank h) le)

-- behind the head
heads_run : (h : Head) (cs : List Code) (k : ℕ) (m : Module) (ls : List Line) → k ≤ head_rank h → wanted h ≡ length cs → onward (exprs_lines cs ++ ls) (placed k m (exprs_on h (wanted h) [])) ≡ run (behind (item_of h cs) m) ls
unfolding exprs_lines
heads_run h [] k m ls le e = ap (λ (n : ℕ). onward ls (placed k m (exprs_on h n []))) e ∙ gives_run (item_of h []) k m ls (omega (arith, rank_of_item h []))
heads_run h (c ∷ cs) k m ls le e =
    ap (λ (n : ℕ). onward (exprs_lines (c ∷ cs) ++ ls) (placed k m (exprs_on h n []))) e
    ∙ opens_run h (length cs) k m (exprs_lines (c ∷ cs) ++ ls) le
    ∙ exprs_run m h cs [] c ls
    ∙ gives_run (item_of h (c ∷ cs)) (head_rank h) m ls (omega (arith, rank_of_item h (c ∷ cs)))

-- an item with expressions behind one line
head_run : (h : Head) (l : Line) (cs : List Code) (k : ℕ) (m : Module) (ls : List Line) → head_lines h ≡ l ∷ [] → begin l ≡ exprs_on h (wanted h) [] → k ≤ head_rank h → wanted h ≡ length cs → run (Reading k m Between) (headed h cs ++ ls) ≡ run (behind (item_of h cs) m) ls
head_run h l cs k m ls a b le e =
    ap (λ (hs : List Line). run (Reading k m Between) ((hs ++ exprs_lines cs) ++ ls)) a
    ∙ begin_run l k m (exprs_lines cs ++ ls)
    ∙ ap (λ (n : Next). onward (exprs_lines cs ++ ls) (placed k m n)) b
    ∙ heads_run h cs k m ls le e

table_run : (t : TableType) (o : Option Code) (k : ℕ) (m : Module) (ls : List Line) → k ≤ 2 → run (Reading k m Between) (table_lines t o ++ ls) ≡ run (behind (TableItem (record { kind = t; init = o })) m) ls
unfolding head_lines
table_run t None k m ls le = line_run (line.Table t false) (TableItem (record { kind = t; init = None })) k m ls refl le
table_run t (Some c) k m ls le = head_run (TableHead t) (line.Table t true) (c ∷ []) k m ls refl refl le refl

elem_run : (mode : ElemMode) (r : RefType) (cs : List Code) (k : ℕ) (m : Module) (ls : List Line) → k ≤ 8 → run (Reading k m Between) (elem_lines mode r cs ++ ls) ≡ run (behind (Elements (record { kind = r; items = cs; mode = mode })) m) ls
unfolding head_lines
elem_run (elem_mode.Active x c) r cs k m ls le = head_run (ElemHead (mode.Active x) r (length cs)) (line.Elements (mode.Active x) r (length cs)) (c ∷ cs) k m ls refl refl le refl
elem_run elem_mode.Passive r cs k m ls le = head_run (ElemHead mode.Passive r (length cs)) (line.Elements mode.Passive r (length cs)) cs k m ls refl refl le refl
elem_run elem_mode.Declarative r cs k m ls le = head_run (ElemHead mode.Declarative r (length cs)) (line.Elements mode.Declarative r (length cs)) cs k m ls refl refl le refl

data_run : (mode : DataMode) (b : List ℕ) (k : ℕ) (m : Module) (ls : List Line) → k ≤ 9 → run (Reading k m Between) (data_lines mode b ++ ls) ≡ run (behind (Bytes (record { bytes = b; mode = mode })) m) ls
unfolding head_lines
data_run (data_mode.Active x c) b k m ls le = head_run (DataHead x b) (line.Data (Some x) b) (c ∷ []) k m ls refl refl le refl
data_run data_mode.Passive b k m ls le = line_run (line.Data None b) (Bytes (record { bytes = b; mode = data_mode.Passive })) k m ls refl le

-- ## Groups

types_run : (ts us : List SubType) (t : SubType) (m : Module) (ls : List Line) → run (Reading 0 m (InGroup (length us) ts)) (map line.Type (t ∷ us) ++ ls) ≡ run (behind (Group (group_of (ts ++ t ∷ us))) m) ls
unfolding run step next
types_run ts [] t m ls = refl
types_run ts (u ∷ us) t m ls = types_run (ts ++ t ∷ []) us u m ls ∙ ap (λ (vs : List SubType). run (behind (Group (group_of vs)) m) ls) (append_assoc ts (t ∷ []) (u ∷ us))

group_run : (ts : List SubType) (k : ℕ) (m : Module) (ls : List Line) → k ≤ 0 → run (Reading k m Between) (group_lines ts ++ ls) ≡ run (behind (Group (group_of ts)) m) ls
unfolding group_lines
group_run [] k m ls le = line_run (line.Group 0) (Group (group_of [])) k m ls refl le
group_run (t ∷ []) k m ls le = line_run (line.Type t) (Group (group_of (t ∷ []))) k m ls refl le
group_run (t ∷ u ∷ ts) k m ls le =
    begin_run (line.Group (length (t ∷ u ∷ ts))) k m (map line.Type (t ∷ u ∷ ts) ++ ls)
    ∙ ap (λ (b : Bool). onward (map line.Type (t ∷ u ∷ ts) ++ ls) (cond b (Some (Reading 0 m (InGroup (length (u ∷ ts)) []))) None)) (le-leb k 0 le)
    ∙ types_run [] (u ∷ ts) t m ls

-- ## Functions

true_and : (a b : Bool) → a ≡ true → b ≡ true → (a && b) ≡ true
true_and a b e f = rw (e, f) refl

unlike_there : (ls : List LocalRun) (l : LocalRun) (more : List LocalRun) → IsJoined (ls ++ l ∷ more) → (unlike_last ls l ≡ true) × (nat_eq l.count 0 ≡ false)
unfolding unlike_last
unlike_there [] l [] j = (refl, j)
unlike_there [] l (n ∷ more) j = (refl, j.0)
unlike_there (m ∷ []) l [] j = (rw j.1 refl, j.2)
unlike_there (m ∷ []) l (n ∷ more) j = (rw j.1 refl, j.2.0)
unlike_there (m ∷ n ∷ ls) l more j = unlike_there (n ∷ ls) l more j.2

total_there : (ls : List LocalRun) (l : LocalRun) (more : List LocalRun) → total ls + l.count ≤ total (ls ++ l ∷ more)
unfolding total
total_there [] l more = omega arith
total_there (m ∷ ls) l more = omega (arith, total_there ls l more)

follows_there : (ls : List LocalRun) (l : LocalRun) (more : List LocalRun) → FewJoined (ls ++ l ∷ more) → may_follow ls l ≡ true
follows_there ls l more f =
    let u = unlike_there ls l more f.alone in
    let lt : total ls + l.count < 2 ^ 32 = omega (arith, total_there ls l more, f.few) in
    rw (u.0, u.1) (lt-ltb (total ls + l.count) (2 ^ 32) lt)

local_line : (x : ℕ) (ls : List LocalRun) (l : LocalRun) (m : Module) (ks : List Line) → may_follow ls l ≡ true → run (Reading 10 m (InLocals x ls)) (line.Local l ∷ ks) ≡ run (Reading 10 m (InLocals x (ls ++ l ∷ []))) ks
unfolding run step next
local_line x ls l m ks e = ap (λ (b : Bool). onward ks (placed 10 m (cond b (Opens (InLocals x (ls ++ l ∷ []))) Refuses))) e

locals_run : (x : ℕ) (ls more : List LocalRun) (m : Module) (ks : List Line) → FewJoined (ls ++ more) → run (Reading 10 m (InLocals x ls)) (map line.Local more ++ ks) ≡ run (Reading 10 m (InLocals x (ls ++ more))) ks
locals_run x ls [] m ks f = ap (λ (k : List LocalRun). run (Reading 10 m (InLocals x k)) ks) (sym (append-nil ls))
locals_run x ls (l ∷ more) m ks f =
    local_line x ls l m (map line.Local more ++ ks) (follows_there ls l more f)
    ∙ locals_run x (ls ++ l ∷ []) more m ks (subst FewJoined (sym (append_assoc ls (l ∷ []) more)) f)
    ∙ ap (λ (k : List LocalRun). run (Reading 10 m (InLocals x k)) ks) (append_assoc ls (l ∷ []) more)

-- the first token ends the locals
body_first : (x : ℕ) (ls : List LocalRun) (us : List Token) (m : Module) (ks : List Line) → run (Reading 10 m (InLocals x ls)) (map line.Token (us ++ tok.End ∷ []) ++ ks) ≡ run (inside m (FunctionHead x ls) 0 [] Top Done) (map line.Token (us ++ tok.End ∷ []) ++ ks)
unfolding run step next
body_first x ls [] m ks = refl
body_first x ls (u ∷ us) m ks = refl

body_run : (x : ℕ) (ls : List LocalRun) (c : Code) (m : Module) (ks : List Line) → run (Reading 10 m (InLocals x ls)) (expr_lines c ++ ks) ≡ run (inside m (FunctionHead x ls) 0 [] Top Done) (expr_lines c ++ ks)
unfolding expr_lines
body_run x ls c m ks = body_first x ls (tokens c) m ks

function_first : (x k : ℕ) (m : Module) (ks : List Line) → k ≤ 10 → run (Reading k m Between) (line.Function x ∷ ks) ≡ run (Reading 10 m (InLocals x [])) ks
function_first x k m ks le = begin_run (line.Function x) k m ks ∙ ap (λ (b : Bool). onward ks (cond b (Some (Reading 10 m (InLocals x []))) None)) (le-leb k 10 le)

function_run : (x : ℕ) (ls : List LocalRun) (c : Code) (k : ℕ) (m : Module) (ks : List Line) → k ≤ 10 → FewJoined ls → run (Reading k m Between) (headed (FunctionHead x ls) (c ∷ []) ++ ks) ≡ run (behind (Function x (record { locals = ls; body = c })) m) ks
unfolding head_lines exprs_lines
function_run x ls c k m ks le f =
    let e = append-nil (expr_lines c) in
    ap (λ (l : List Line). run (Reading k m Between) (((line.Function x ∷ map line.Local ls) ++ l) ++ ks)) e
    ∙ function_first x k m ((map line.Local ls ++ expr_lines c) ++ ks) le
    ∙ ap (λ (l : List Line). run (Reading 10 m (InLocals x [])) l) (append_assoc (map line.Local ls) (expr_lines c) ks)
    ∙ locals_run x [] ls m (expr_lines c ++ ks) f
    ∙ body_run x ls c m ks
    ∙ expr_run m (FunctionHead x ls) 0 [] c ks
    ∙ gives_run (Function x (record { locals = ls; body = c })) 10 m ks (omega arith)

-- ## All items

global_head : (g : GlobalType) → head_lines (GlobalHead g) ≡ line.Global g ∷ []
unfolding head_lines
global_head g = refl

pub item_run : (it : Item) (k : ℕ) (m : Module) (ls : List Line) → k ≤ rank it → ItemFits it → run (Reading k m Between) (item_lines it ++ ls) ≡ run (behind it m) ls
unfolding item_lines
item_run (Group g) k m ls le f = group_run g.types k m ls le
item_run (Imported i) k m ls le f = line_run (line.Import i) (Imported i) k m ls refl le
item_run (TableItem t) k m ls le f = table_run t.kind t.init k m ls le
item_run (Memory l) k m ls le f = line_run (line.Memory l) (Memory l) k m ls refl le
item_run (TagItem t) k m ls le f = line_run (line.Tag t) (TagItem t) k m ls refl le
item_run (Global g) k m ls le f = head_run (GlobalHead g.kind) (line.Global g.kind) (g.init ∷ []) k m ls (global_head g.kind) refl le refl
item_run (Exported e) k m ls le f = line_run (line.Export e) (Exported e) k m ls refl le
item_run (Start x) k m ls le f = line_run (line.Start x) (Start x) k m ls refl le
item_run (Elements e) k m ls le f = elem_run e.mode e.kind e.items k m ls le
item_run (Bytes d) k m ls le f = data_run d.mode d.bytes k m ls le
item_run (Function x c) k m ls le f = function_run x c.locals c.body k m ls le f

-- each item may stand behind those before it
abbrev pub Ordered : ℕ → List Item → Type 0
Ordered k [] = ⊤
Ordered k (it ∷ its) = (k ≤ rank it) × ItemFits it × Ordered (rank_after it) its

unfoldable pub added_all : List Item → Module → Module
added_all [] m = m
added_all (it ∷ its) m = added_all its (add it m)

pub items_run : (its : List Item) (k : ℕ) (m : Module) → Ordered k its → (j : ℕ) × (run (Reading k m Between) (flat_map item_lines its) ≡ Some (Reading j (added_all its m) Between))
unfolding run added_all
items_run [] k m o = (k, refl)
items_run (it ∷ its) k m o =
    let again = items_run its (rank_after it) (add it m) o.2 in
    (again.0, item_run it k m (flat_map item_lines its) o.0 o.1 ∙ again.1)

-- How the number of operands and the peak of open blocks go along.
use Rattle.std.proofs.Common.{◌≡◌, ℕ, ◌+◌, ◌-◌, ◌≤◌, max, Bool, true, false, List, ◌∷◌, Option, Some, None, refl, sym, ◌∙◌, ap, arith}
use Rattle.w_types.specs.declared.types.ValType.{ValType}
use Rattle.lists.specs.Rows.{Row, ◌⧺◌, size}
use Rattle.w_syntax.specs.Code.{Code, Done, Plain}
use Rattle.w_syntax.specs.declared.instructions.BlockType.{BlockType}
use Rattle.w_syntax.specs.declared.instructions.Op.{Op}
use Rattle.w_rules.specs.Operands.{Operand}
use Rattle.w_rules.specs.Context.{Context, Arrow, arrow_of, label_of}
use Rattle.w_rules.specs.InstructionTypes.{instr_type}
use Rattle.w_rules.specs.Matching.{known}
use Rattle.w_rules.specs.Peak.{net, or_none, in_arrow, moved, past_net, past_arrow, extra, peak}
use Rattle.w_flow.specs.Flow.{Flow, ◌>>=◌}
use Rattle.w_steps.specs.Labels.{arrow_at, to_of, within}
use Rattle.w_vplain.specs.Prefixes.{OpenBlock, opened, more, node, taken_by, kinds_of, set_at}
use Rattle.w_vplain.specs.Frames.{Frame}
use Rattle.w_vplain.specs.Measures.{height, condition, height_at, first_peak, block_peak, peaks, tally, total}
use Rattle.w_steps.specs.declared.frame_kind.FrameKind.{FrameKind}
use Rattle.w_steps.specs.declared.frame_kind.FrameKind.TheVariants as kind
use Rattle.w_vplain.proofs.OpenBlocks.{open_block}
use Rattle.w_vplain.proofs.Nodes.{Inner, is_block, is_then, is_else, label_is, labelled_by}
use Rattle.w_vplain.proofs.Options.{Whenever, whenever_map, bind_assoc, bind_same, or_same}
use Rattle.w_vplain.proofs.TypeHeights.{Goes, size-known, size-pushed}
use Rattle.w_vplain.proofs.CodeHeights.{height-after, least, peak-after, end_below}

-- ## An open block, with one more instruction or block

-- its number of operands
height_more : (c : Context) (s : List Bool) (l : OpenBlock) (ls : List OpenBlock) (k : Code) →
    height_at c s (more l k ∷ ls) ≡ (height_at c s (l ∷ ls) >>= λ h. height (within c (kinds_of (l ∷ ls))) (set_at s (l ∷ ls)) k h)
height_more c s l ls k =
    bind_same (height_at c s ls) _ _ (λ h. height-after (within c (kinds_of (l ∷ ls))) (set_at s ls) l.code k (h - condition l.kind))
    ∙ sym (bind_assoc (height_at c s ls) _ _)

-- the peak of an open block, from that of its instructions
more_at : (o : Option ℕ) (f p q : ℕ → ℕ) (k : ℕ → Option ℕ) (r : ℕ → ℕ) → ((h : ℕ) → q h ≡ max (p h) (or_none (k h) r)) →
    or_none o (λ (h : ℕ). max (f h) (q h)) ≡ max (or_none o (λ (h : ℕ). max (f h) (p h))) (or_none (o >>= k) r)
more_at None f p q k r e = omega arith
more_at (Some h) f p q k r e = ap (max (f h)) (e h) ∙ (let x = or_none (k h) r in omega arith)

-- its peak
peak_more : (c : Context) (s : List Bool) (l : OpenBlock) (ls : List OpenBlock) (k : Code) →
    block_peak c s (more l k) ls ≡ max (block_peak c s l ls) (or_none (height_at c s (l ∷ ls)) (peak (within c (kinds_of (l ∷ ls))) (set_at s (l ∷ ls)) k))
peak_more c s l ls k = more_at (height_at c s ls) _ _ _ _ _
    (λ h. peak-after (within c (kinds_of (l ∷ ls))) (set_at s ls) l.code k (h - condition l.kind))

-- the end of an open block, from that of its instructions
below_at : (o : Option ℕ) (f p : ℕ → ℕ) (k : ℕ → Option ℕ) → ((h : ℕ) → Whenever (k h) (λ (g : ℕ). g ≤ p h)) →
    Whenever (o >>= k) (λ (g : ℕ). g ≤ or_none o (λ (h : ℕ). max (f h) (p h)))
below_at None f p k e = tt
below_at (Some h) f p k e = whenever_map (k h) _ _ (e h) (λ g le. omega arith)

-- the end of an open block is below its peak
block_below : (c : Context) (s : List Bool) (l : OpenBlock) (ls : List OpenBlock) → Whenever (height_at c s (l ∷ ls)) (λ (g : ℕ). g ≤ block_peak c s l ls)
block_below c s l ls = below_at (height_at c s ls) _ _ _ (λ h. end_below (within c (kinds_of (l ∷ ls))) (set_at s ls) l.code (h - condition l.kind))

-- ## An instruction that holds no others

-- none are taken
pub no_zero : (o : Option ℕ) → (o >>= λ m. Some (m + 0)) ≡ o
no_zero None = refl
no_zero (Some m) = ap Some (let e : m + 0 ≡ m = omega arith in e)

-- a place that is below the peak may be left out
typed_peak : (o : Option ℕ) (n : Option (ℕ × ℕ)) (p : ℕ) (x : ℕ → ℕ) → Whenever o (λ (g : ℕ). g ≤ p) →
    max p (or_none o (λ (g : ℕ). max (max g (x g)) (past_net n g (λ (h : ℕ). h)))) ≡ max (max p (or_none o x)) (or_none (o >>= λ g. n >>= λ m. Some (moved g m)) (λ (h : ℕ). h))
typed_peak None n p x le = omega arith
typed_peak (Some g) None p x le = omega arith
typed_peak (Some g) (Some m) p x le = omega arith

-- the blocks around keep their peak
raise : (a b x c d : ℕ) → a ≡ max (max b x) c → max a d ≡ max (max (max b d) x) c
raise a b x c d e = omega arith

-- where the type moves the operands of the flow, the open block's number and the peak go along
pub typed_counts : (c : Context) (s : List Bool) (o : Op) (p : Bool) (ts : Row Operand) (l : OpenBlock) (ls : List OpenBlock) (fs : List Frame) (w : Flow) →
    Goes (instr_type (within c (kinds_of (l ∷ ls))) (set_at s (l ∷ ls)) o) p ts w →
    height_at c s (l ∷ ls) ≡ (tally p ts (total fs) >>= λ m. Some (m + 0)) →
    (height_at c s (more l (Plain o Done) ∷ ls) ≡ (tally w.any w.operands (total fs) >>= λ m. Some (m + 0)))
    × (peaks c s (more l (Plain o Done) ∷ ls) ≡ max (max (peaks c s (l ∷ ls)) (or_none (tally p ts (total fs)) (extra (within c (kinds_of (l ∷ ls))) o))) (or_none (tally w.any w.operands (total fs)) (λ (h : ℕ). h)))
typed_counts c s o p ts l ls fs w goes eq =
    let n = net (instr_type (within c (kinds_of (l ∷ ls))) (set_at s (l ∷ ls)) o) in
    let here : height_at c s (l ∷ ls) ≡ tally p ts (total fs) = eq ∙ no_zero (tally p ts (total fs)) in
    let later : height_at c s (more l (Plain o Done) ∷ ls) ≡ tally w.any w.operands (total fs) =
    height_more c s l ls (Plain o Done) ∙ ap (λ (q : Option ℕ). q >>= λ g. n >>= λ m. Some (moved g m)) here ∙ sym (goes (total fs)) in
    let x = extra (within c (kinds_of (l ∷ ls))) o in
    let top : block_peak c s (more l (Plain o Done)) ls ≡ max (max (block_peak c s l ls) (or_none (tally p ts (total fs)) x)) (or_none (tally w.any w.operands (total fs)) (λ (h : ℕ). h)) =
    peak_more c s l ls (Plain o Done) ∙ typed_peak (height_at c s (l ∷ ls)) n (block_peak c s l ls) x (block_below c s l ls)
    ∙ ap (λ (q : Option ℕ). max (max (block_peak c s l ls) (or_none (height_at c s (l ∷ ls)) x)) (or_none q (λ (h : ℕ). h))) (sym (height_more c s l ls (Plain o Done)) ∙ later)
    ∙ ap (λ (q : Option ℕ). max (max (block_peak c s l ls) (or_none q x)) (or_none (tally w.any w.operands (total fs)) (λ (h : ℕ). h))) here in
    (later ∙ sym (no_zero (tally w.any w.operands (total fs))), raise _ _ _ _ (peaks c s ls) top)

-- ## A block begins

-- a block takes its parameters, and an if its condition too
taken_long : (k : FrameKind) (a : Arrow) → size (taken_by k a) ≡ condition k + size a.from
taken_long kind.Body a = omega arith
taken_long (kind.Block b x) a = omega arith
taken_long (kind.Then x) a = omega arith
taken_long (kind.Else x) a = omega arith

-- as many as there are operands of these types
taken_known : (k : FrameKind) (a : Arrow) → size (taken_by k a) ≡ condition k + size (known a.from)
taken_known k a = omega (arith, taken_long k a, size-known a.from)

-- of n + t operands before it, t are taken
enter_height : (h b : Option ℕ) (ts w : Row Operand) (c from t : ℕ) → t ≡ c + from → size w + t ≡ size ts → h ≡ tally false ts b →
    (h >>= λ g. Some (g - c)) ≡ (tally false w b >>= λ m. Some (m + from))
enter_height h None ts w c from t e l eq = ap (λ (o : Option ℕ). o >>= λ g. Some (g - c)) eq
enter_height h (Some b) ts w c from t e l eq = ap (λ (o : Option ℕ). o >>= λ g. Some (g - c)) eq ∙ (let q : (b + size ts) - c ≡ (b + size w) + from = omega arith in ap Some q)

-- and are left around the block
outer_height : (h b : Option ℕ) (ts w : Row Operand) (t : ℕ) → size w + t ≡ size ts → h ≡ tally false ts b → h ≡ (tally false w b >>= λ m. Some (m + t))
outer_height h None ts w t l eq = eq
outer_height h (Some b) ts w t l eq = eq ∙ (let q : b + size ts ≡ (b + size w) + t = omega arith in ap Some q)

-- the first place in the block
enter_peak : (h : Option ℕ) (c p : ℕ) (f : ℕ → ℕ) → ((g : ℕ) → f g ≡ 0) →
    max (or_none h (λ (g : ℕ). max (f g) (g - c))) p ≡ max p (or_none (h >>= λ g. Some (g - c)) (λ (g : ℕ). g))
enter_peak None c p f z = omega arith
enter_peak (Some h) c p f z = let e = z h in omega arith

-- no first branch is counted
abbrev pub NoFirst : FrameKind → Type 0
NoFirst k = (c : Context) (s : List Bool) (h : ℕ) → first_peak c s k Done h ≡ 0

-- where the place cannot be reached
under_any : (h b : Option ℕ) (ts w : Row Operand) (f : ℕ → ℕ) → h ≡ tally true ts b → (h >>= λ g. Some (f g)) ≡ None
under_any h b ts w f eq = ap (λ (o : Option ℕ). o >>= λ g. Some (f g)) eq

-- the numbers at the first place in the block, and around it
pub enter_heights : (c : Context) (s : List Bool) (k : FrameKind) (a : Arrow) (p : Bool) (ts w : Row Operand) (l : OpenBlock) (ls : List OpenBlock) (fs : List Frame) →
    (p ≡ false → size w + size (taken_by k a) ≡ size ts) → height_at c s (l ∷ ls) ≡ tally p ts (total fs) →
    (height_at c s (opened k ∷ l ∷ ls) ≡ tally false (known a.from) (tally p w (total fs)))
    × (height_at c s (l ∷ ls) ≡ (tally p w (total fs) >>= λ m. Some (m + size (taken_by k a))))
enter_heights c s k a true ts w l ls fs long eq = (under_any (height_at c s (l ∷ ls)) (total fs) ts w _ eq, eq)
enter_heights c s k a false ts w l ls fs long eq = (
  enter_height (height_at c s (l ∷ ls)) (total fs) ts w (condition k) (size (known a.from)) (size (taken_by k a)) (taken_known k a) (long refl) eq,
  outer_height (height_at c s (l ∷ ls)) (total fs) ts w (size (taken_by k a)) (long refl) eq,
)

-- the peak with the first place in the block
pub enter_peaks : (c : Context) (s : List Bool) (k : FrameKind) → NoFirst k → (l : OpenBlock) (ls : List OpenBlock) (now : Option ℕ) → height_at c s (opened k ∷ l ∷ ls) ≡ now →
    peaks c s (opened k ∷ l ∷ ls) ≡ max (peaks c s (l ∷ ls)) (or_none now (λ (h : ℕ). h))
enter_peaks c s k z l ls now eq =
    enter_peak (height_at c s (l ∷ ls)) (condition k) (peaks c s (l ∷ ls)) _ (λ g. z _ _ (g - condition k))
    ∙ ap (λ (o : Option ℕ). max (peaks c s (l ∷ ls)) (or_none o (λ (h : ℕ). h))) eq

-- ## The second branch begins

-- of the first branch it is the peak that counts
turn_peak : (h : Option ℕ) (p q : ℕ) (f : ℕ → ℕ) → ((g : ℕ) → g ≤ f g) → p ≡ or_none h (λ (g : ℕ). max 0 (f (g - 1))) →
    max (or_none h (λ (g : ℕ). max (f (g - 1)) (g - 1))) q ≡ max (max p q) (or_none (h >>= λ g. Some (g - 1)) (λ (g : ℕ). g))
turn_peak None p q f le eq = omega arith
turn_peak (Some h) p q f le eq = let e = le (h - 1) in omega arith

-- it begins where the first branch began
turn_height : (h b : Option ℕ) (from : Row Operand) (t : ℕ) → t ≡ 1 + size from → h ≡ (b >>= λ m. Some (m + t)) → (h >>= λ g. Some (g - 1)) ≡ tally false from b
turn_height h None from t e eq = ap (λ (o : Option ℕ). o >>= λ g. Some (g - 1)) eq
turn_height h (Some b) from t e eq = ap (λ (o : Option ℕ). o >>= λ g. Some (g - 1)) eq ∙ (let q : (b + t) - 1 ≡ b + size from = omega arith in ap Some q)

-- the number of operands and the peak at its first place
pub turn_counts : (c : Context) (s : List Bool) (x : BlockType) (f d : Code) (m : OpenBlock) (ms : List OpenBlock) (gs : List Frame) (a : Arrow) →
    height_at c s (m ∷ ms) ≡ (total gs >>= λ n. Some (n + size (taken_by (kind.Then x) a))) →
    (height_at c s (open_block (kind.Else x) d Done ∷ m ∷ ms) ≡ tally false (known a.from) (total gs))
    × (peaks c s (open_block (kind.Else x) d Done ∷ m ∷ ms)
    ≡ max (peaks c s (open_block (kind.Then x) f d ∷ m ∷ ms)) (or_none (tally false (known a.from) (total gs)) (λ (h : ℕ). h)))
turn_counts c s x f d m ms gs a out =
    let here : height_at c s (open_block (kind.Else x) d Done ∷ m ∷ ms) ≡ tally false (known a.from) (total gs) =
    turn_height (height_at c s (m ∷ ms)) (total gs) (known a.from) (size (taken_by (kind.Then x) a)) (taken_known (kind.Then x) a) out in (
      here,
      turn_peak (height_at c s (m ∷ ms)) (block_peak c s (open_block (kind.Then x) f d) (m ∷ ms)) (peaks c s (m ∷ ms)) _
          (λ h. least (within c (kinds_of (open_block (kind.Then x) f d ∷ m ∷ ms))) (set_at s (m ∷ ms)) d h) refl
          ∙ ap (λ (o : Option ℕ). max (peaks c s (open_block (kind.Then x) f d ∷ m ∷ ms)) (or_none o (λ (h : ℕ). h))) here,
    )

-- ## A block ends

-- the block leaves its results where it took its parameters
end_height : (h b : Option ℕ) (c t from to : ℕ) → t ≡ c + from → h ≡ (b >>= λ m. Some (m + t)) →
    (h >>= λ g. Some ((g - c) - from + to)) ≡ (b >>= λ m. Some (m + to))
end_height h None c t from to e eq = ap (λ (o : Option ℕ). o >>= λ g. Some ((g - c) - from + to)) eq
end_height h (Some b) c t from to e eq = ap (λ (o : Option ℕ). o >>= λ g. Some ((g - c) - from + to)) eq ∙ (let q : ((b + t) - c) - from + to ≡ b + to = omega arith in ap Some q)

-- what the block has inside is its part of the peak
end_peak : (h : Option ℕ) (p q : ℕ) (inner : ℕ → ℕ) (past : ℕ → ℕ) → Whenever h (λ (g : ℕ). g ≤ p) →
    max (max p (or_none h (λ (g : ℕ). max g (max (inner g) (past g))))) q ≡ max (max (or_none h inner) (max p q)) (or_none (h >>= λ g. Some (past g)) (λ (g : ℕ). g))
end_peak None p q inner past le = omega arith
end_peak (Some h) p q inner past le = omega arith

-- the number of operands with the results
tally-pushed : (p : Bool) (to : Row ValType) (ts : Row Operand) (b : Option ℕ) → tally p (ts ⧺ known to) b ≡ (tally p ts b >>= λ m. Some (m + size to))
tally-pushed true to ts b = refl
tally-pushed false to ts None = refl
tally-pushed false to ts (Some b) = let q : b + size (ts ⧺ known to) ≡ (b + size ts) + size to = omega (arith, size-pushed ts to) in ap Some q

abbrev inner_peak : Context → List Bool → FrameKind → Code → Code → List FrameKind → ℕ → ℕ
inner_peak c s k f d ks h = max (first_peak (within c (k ∷ ks)) s k f (h - condition k)) (peak (within c (k ∷ ks)) s d (h - condition k))

-- the type of the block is there
at_some : (o : Option Arrow) (a : Arrow) (f : Arrow → ℕ) → o ≡ Some a → in_arrow o f ≡ f a
at_some o a f e = ap (λ (q : Option Arrow). in_arrow q f) e

-- no condition is taken
no_condition : (h : ℕ) → h - 0 ≡ h
no_condition h = omega arith

-- nothing and one
max_zero_left : (a : ℕ) → a ≡ max 0 a
max_zero_left a = omega arith

-- the whole block, as an instruction of the one around it
node_height : (c : Context) (s : List Bool) (k : FrameKind) → Inner k → (f d : Code) (ks : List FrameKind) (a : Arrow) → arrow_at c k ≡ Some a → (h : ℕ) →
    height (within c ks) s (node k f d) h ≡ Some (past_arrow a (h - condition k))
node_height c s k (is_block b x) f d ks a eq h = ap (λ (o : Option Arrow). o >>= λ r. Some (past_arrow r h)) eq ∙ ap (λ (g : ℕ). Some (past_arrow a g)) (sym (no_condition h))
node_height c s k (is_then x) f d ks a eq h = ap (λ (o : Option Arrow). o >>= λ r. Some (past_arrow r (h - 1))) eq
node_height c s k (is_else x) f d ks a eq h = ap (λ (o : Option Arrow). o >>= λ r. Some (past_arrow r (h - 1))) eq

-- and its peak
node_peak : (c : Context) (s : List Bool) (k : FrameKind) → Inner k → (f d : Code) (ks : List FrameKind) (a : Arrow) → arrow_at c k ≡ Some a → (h : ℕ) →
    peak (within c ks) s (node k f d) h ≡ max h (max (inner_peak c s k f d ks h) (past_arrow a (h - condition k)))
node_peak c s k (is_block b x) f d ks a eq h = ap (max h) (at_some (arrow_of c x) a _ eq
    ∙ ap (λ (v : Row ValType). max (peak (labelled_by c ks v) s d h) (past_arrow a h)) (sym (label_is (label_of b) (arrow_of c x) a eq))
    ∙ ap (λ (z : ℕ). max z (past_arrow a h)) (max_zero_left _) ∙ ap (λ (g : ℕ). max (max 0 (peak (within c (kind.Block b x ∷ ks)) s d g)) (past_arrow a g)) (sym (no_condition h)))
node_peak c s k (is_then x) f d ks a eq h = ap (max h) (at_some (arrow_of c x) a _ eq
    ∙ ap (λ (v : Row ValType). max (peak (labelled_by c ks v) s d (h - 1)) (past_arrow a (h - 1))) (sym (label_is to_of (arrow_of c x) a eq))
    ∙ ap (λ (z : ℕ). max z (past_arrow a (h - 1))) (max_zero_left _))
node_peak c s k (is_else x) f d ks a eq h = ap (max h) (at_some (arrow_of c x) a _ eq
    ∙ ap (λ (v : Row ValType). max (max (peak (labelled_by c ks v) s f (h - 1)) (peak (labelled_by c ks v) s d (h - 1))) (past_arrow a (h - 1)))
    (sym (label_is to_of (arrow_of c x) a eq)))

-- the number of operands and the peak at its end
pub end_counts : (c : Context) (s : List Bool) (k : FrameKind) → Inner k → (f d : Code) (m : OpenBlock) (ms : List OpenBlock) (g : Frame) (gs : List Frame) (a : Arrow) → arrow_at c k ≡ Some a →
    height_at c s (m ∷ ms) ≡ (total (g ∷ gs) >>= λ n. Some (n + size (taken_by k a))) →
    (height_at c s (more m (node k f d) ∷ ms) ≡ tally g.any (g.operands ⧺ known a.to) (total gs))
    × (peaks c s (more m (node k f d) ∷ ms) ≡ max (peaks c s (open_block k f d ∷ m ∷ ms)) (or_none (tally g.any (g.operands ⧺ known a.to) (total gs)) (λ (h : ℕ). h)))
end_counts c s k i f d m ms g gs a eq out =
    let later : height_at c s (more m (node k f d) ∷ ms) ≡ (height_at c s (m ∷ ms) >>= λ h. Some (past_arrow a (h - condition k))) =
    height_more c s m ms (node k f d) ∙ bind_same (height_at c s (m ∷ ms)) _ _ (λ h. node_height c (set_at s (m ∷ ms)) k i f d (kinds_of (m ∷ ms)) a eq h) in
    let same : height_at c s (more m (node k f d) ∷ ms) ≡ tally g.any (g.operands ⧺ known a.to) (total gs) =
    later ∙ end_height (height_at c s (m ∷ ms)) (total (g ∷ gs)) (condition k) (size (taken_by k a)) (size a.from) (size a.to) (taken_long k a) out
    ∙ sym (tally-pushed g.any a.to g.operands (total gs)) in
    let inner = inner_peak c (set_at s (m ∷ ms)) k f d (kinds_of (m ∷ ms)) in
    let past = λ (h : ℕ). past_arrow a (h - condition k) in
    let top : block_peak c s (more m (node k f d)) ms ≡ max (block_peak c s m ms) (or_none (height_at c s (m ∷ ms)) (λ (h : ℕ). max h (max (inner h) (past h)))) =
    peak_more c s m ms (node k f d) ∙ ap (max (block_peak c s m ms)) (or_same (height_at c s (m ∷ ms)) _ _ (λ h. node_peak c (set_at s (m ∷ ms)) k i f d (kinds_of (m ∷ ms)) a eq h)) in (
      same,
      ap (λ (z : ℕ). max z (peaks c s ms)) top ∙ end_peak (height_at c s (m ∷ ms)) (block_peak c s m ms) (peaks c s ms) inner past (block_below c s m ms)
          ∙ ap (λ (o : Option ℕ). max (peaks c s (open_block k f d ∷ m ∷ ms)) (or_none o (λ (h : ℕ). h))) (sym later ∙ same),
    )

-- What becomes of memories when one of them changes.
use Rattle.std.proofs.Common.{◌≡◌, ◌<◌, ℕ, ◌-◌, List, ◌++◌, length, get_or, Option, Some, None, refl, sym, ◌∙◌, ap, subst, arith}
use Rattle.std.specs.Prelude.{slice_set, IfNone}
use Rattle.std.proofs.lemmas.List.{get_or_default, set-get_or, set-append_left, set-append_right, get_or_append_left, get_or-append_right}
use Rattle.w_memory.specs.Memory.{Memory, copy, init, left_by}
use Rattle.w_tables.specs.Outcomes.{outcome}
use Rattle.w_tables.specs.Operations.{memory_at}

-- an answer, and what an operation leaves
abbrev Left : Type 0
Left = Option (Unit {0}) × List Memory

-- an operation on a memory is one on the memories
changed : (ms : List Memory) (x : ℕ) (made : Option Memory) (result : Option (Unit {0})) (new : Memory) → made ≡ left_by result new → IfNone result (new ≡ memory_at ms x)
    → outcome ms (λ m. slice_set ms x m) made ≡ (result, slice_set ms x new)
changed ms x made (Some done) new e h = ap (outcome ms (λ m. slice_set ms x m)) e
changed ms x made None new e h =
    let same : slice_set ms x (memory_at ms x) ≡ ms = set-get_or ms x _ in
    ap (outcome ms (λ m. slice_set ms x m)) e ∙ ap (λ l. let p : Left = (None, l) in p) (sym same ∙ ap (slice_set ms x) (sym h))

-- a copy within one is a copy from it
copied_within : (m : Memory) (to from n : ℕ) → copy m to from n ≡ init m m.bytes to from n
unfolding copy init
copied_within m to from n = refl

-- a copy between two memories that are there
between : (ms : List Memory) (dst src to from n : ℕ) (x y : Memory) (result : Option (Unit {0})) (new : Memory) → memory_at ms dst ≡ x → memory_at ms src ≡ y
    → init x y.bytes to from n ≡ left_by result new → IfNone result (new ≡ x)
    → outcome ms (λ m. slice_set ms dst m) (init (memory_at ms dst) (memory_at ms src).bytes to from n) ≡ (result, slice_set ms dst new)
between ms dst src to from n x y result new a b made stays =
    let here : init (memory_at ms dst) (memory_at ms src).bytes to from n ≡ left_by result new =
    subst (λ (z : Memory). init z (memory_at ms src).bytes to from n ≡ left_by result new) (sym a) (subst (λ (z : Memory). init x z.bytes to from n ≡ left_by result new) (sym b) made) in
    changed ms dst _ result new here (subst (λ (z : Memory). IfNone result (new ≡ z)) (sym a) stays)

-- a memory of the first part, or of the second
first : (ms front back : List Memory) (t : ℕ) (x : Memory) → ms ≡ front ++ back → t < length front → x ≡ get_or front t x → memory_at ms t ≡ x
first ms front back t x e h read = ap (λ l. memory_at l t) e ∙ get_or_append_left front back _ t h ∙ get_or_default front t _ x h ∙ sym read

second : (ms front back : List Memory) (t : ℕ) (x : Memory) → ms ≡ front ++ back → length front ≡ t → t < length ms → x ≡ get_or back 0 x → memory_at ms t ≡ x
second ms front back t x e f h read =
    let none : t - t ≡ 0 = omega arith in
    get_or_default ms t _ x h ∙ ap (λ l. get_or l t x) e ∙ get_or-append_right front back t t x f (omega arith) ∙ ap (λ k. get_or back k x) none ∙ sym read

-- a copy from the second part to the first, where the second begins with the source
pub copied_to_front : (ms front back : List Memory) (dst src to from n : ℕ) (x y : Memory) (result : Option (Unit {0})) (new : Memory)
    → ms ≡ front ++ back → length front ≡ src → dst < src → src < length ms → x ≡ get_or front dst x → y ≡ get_or back 0 y → init x y.bytes to from n ≡ left_by result new → IfNone result (new ≡ x)
    → outcome ms (λ m. slice_set ms dst m) (init (memory_at ms dst) (memory_at ms src).bytes to from n) ≡ (result, slice_set front dst new ++ back)
copied_to_front ms front back dst src to from n x y result new e f lt h read from_there made stays =
    let within : dst < length front = omega arith in
    between ms dst src to from n x y result new (first ms front back dst x e within read) (second ms front back src y e f h from_there) made stays
    ∙ ap (λ l. let p : Left = (result, l) in p) (ap (λ l. slice_set l dst new) e ∙ set-append_left front back dst new within)

-- a copy from the first part to the second, which begins with the target
pub copied_to_back : (ms front back : List Memory) (dst src to from n : ℕ) (x y : Memory) (result : Option (Unit {0})) (new : Memory)
    → ms ≡ front ++ back → length front ≡ dst → src < dst → dst < length ms → x ≡ get_or back 0 x → y ≡ get_or front src y → init x y.bytes to from n ≡ left_by result new → IfNone result (new ≡ x)
    → outcome ms (λ m. slice_set ms dst m) (init (memory_at ms dst) (memory_at ms src).bytes to from n) ≡ (result, front ++ slice_set back 0 new)
copied_to_back ms front back dst src to from n x y result new e f lt h read from_there made stays =
    let within : src < length front = omega arith in
    let none : dst - dst ≡ 0 = omega arith in
    between ms dst src to from n x y result new (second ms front back dst x e f h read) (first ms front back src y e within from_there) made stays
    ∙ ap (λ l. let p : Left = (result, l) in p)
    (ap (λ l. slice_set l dst new) e ∙ set-append_right front back dst dst new f (omega arith) ∙ ap (λ k. front ++ slice_set back k new) none)

-- a copy within a memory that is there
pub copied_in_place : (ms : List Memory) (at to from n : ℕ) (x : Memory) (result : Option (Unit {0})) (new : Memory) → memory_at ms at ≡ x → copy x to from n ≡ left_by result new → IfNone result (new ≡ x)
    → outcome ms (λ m. slice_set ms at m) (init (memory_at ms at) (memory_at ms at).bytes to from n) ≡ (result, slice_set ms at new)
copied_in_place ms at to from n x result new a made stays = between ms at at to from n x x result new a a (sym (copied_within x to from n) ∙ made) stays

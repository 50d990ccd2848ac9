use Rattle.std.proofs.Common.{refl, arith}
use Rattle.w_rules.specs.Valid.{TypeItem, ImportItem, TableItem, MemoryItem, TagItem, GlobalItem, ElementItem, DataItem, StartItem}
use Rattle.w_items.proofs.Items.{none_judged, kind_judged, invalid_at, before_exports}
use Rattle.w_items.proofs.definitions.first_invalid_definition.Goals as goal

pub returns-in-Some : goal.returns-in-Some
returns-in-Some c =
    let m = c.args.cx.now.candidate.now in
    let first = c.in-Some.ensures in
    (c.requires.within, invalid_at m (TypeItem c.in-Some.index) (none_judged m) first.0 first.1 first.2)

pub returns-in-Some-2 : goal.returns-in-Some-2
returns-in-Some-2 c =
    let m = c.args.cx.now.candidate.now in
    let types = kind_judged m 0 (none_judged m) (rw c.in_default.is at c.first_invalid_type.ensures) in
    let first = rw c.in-Some-2.is at c.in_ok-index.ensures in
    (c.requires.within, invalid_at m (ImportItem c.in-Some-2.index) types first.0 first.1 first.2)

pub returns-in-Some-3 : goal.returns-in-Some-3
returns-in-Some-3 c =
    let m = c.args.cx.now.candidate.now in
    let types = kind_judged m 0 (none_judged m) (rw c.in_default.is at c.first_invalid_type.ensures) in
    let imports = kind_judged m 1 types (rw c.in_default-2.is at c.in_ok-index.ensures) in
    let first = rw c.in-Some-3.is at c.in_ok-index-2.ensures in
    (c.requires.within, invalid_at m (TableItem c.in-Some-3.index) imports first.0 first.1 first.2)

pub returns-then-not-are_memories_valid : goal.returns-then-not-are_memories_valid
returns-then-not-are_memories_valid c =
    let m = c.args.cx.now.candidate.now in
    let types = kind_judged m 0 (none_judged m) (rw c.in_default.is at c.first_invalid_type.ensures) in
    let imports = kind_judged m 1 types (rw c.in_default-2.is at c.in_ok-index.ensures) in
    let tables = kind_judged m 2 imports (rw c.in_default-3.is at c.in_ok-index-2.ensures) in
    (c.requires.within, invalid_at m MemoryItem tables tt (λ t. let e = c.if-not-are_memories_valid.ensures.1 t in absurd (cc)) (λ j lt. absurd (omega arith)))

pub returns-in-Some-4 : goal.returns-in-Some-4
returns-in-Some-4 c =
    let m = c.args.cx.now.candidate.now in
    let types = kind_judged m 0 (none_judged m) (rw c.in_default.is at c.first_invalid_type.ensures) in
    let imports = kind_judged m 1 types (rw c.in_default-2.is at c.in_ok-index.ensures) in
    let tables = kind_judged m 2 imports (rw c.in_default-3.is at c.in_ok-index-2.ensures) in
    let memories = kind_judged m 3 tables (λ j is. c.if-not-are_memories_valid.ensures.0 refl) in
    let first = rw c.in-Some-4.is at c.in_ok-index-3.ensures in
    (c.requires.within, invalid_at m (TagItem c.in-Some-4.index) memories first.0 first.1 first.2)

pub returns-in-Some-5 : goal.returns-in-Some-5
returns-in-Some-5 c =
    let m = c.args.cx.now.candidate.now in
    let types = kind_judged m 0 (none_judged m) (rw c.in_default.is at c.first_invalid_type.ensures) in
    let imports = kind_judged m 1 types (rw c.in_default-2.is at c.in_ok-index.ensures) in
    let tables = kind_judged m 2 imports (rw c.in_default-3.is at c.in_ok-index-2.ensures) in
    let memories = kind_judged m 3 tables (λ j is. c.if-not-are_memories_valid.ensures.0 refl) in
    let tags = kind_judged m 4 memories (rw c.in_default-4.is at c.in_ok-index-3.ensures) in
    let first = rw c.in-Some-5.is at c.in_ok-index-4.ensures in
    (c.requires.within, invalid_at m (GlobalItem c.in-Some-5.index) tags first.0 first.1 first.2)

pub returns-in-Some-6 : goal.returns-in-Some-6
returns-in-Some-6 c =
    let m = c.args.cx.now.candidate.now in
    let types = kind_judged m 0 (none_judged m) (rw c.in_default.is at c.first_invalid_type.ensures) in
    let imports = kind_judged m 1 types (rw c.in_default-2.is at c.in_ok-index.ensures) in
    let tables = kind_judged m 2 imports (rw c.in_default-3.is at c.in_ok-index-2.ensures) in
    let memories = kind_judged m 3 tables (λ j is. c.if-not-are_memories_valid.ensures.0 refl) in
    let tags = kind_judged m 4 memories (rw c.in_default-4.is at c.in_ok-index-3.ensures) in
    let globals = kind_judged m 5 tags (rw c.in_default-5.is at c.in_ok-index-4.ensures) in
    let first = rw c.in-Some-6.is at c.in_ok-index-5.ensures in
    (c.requires.within, invalid_at m (ElementItem c.in-Some-6.index) globals first.0 first.1 first.2)

pub returns-in-Some-7 : goal.returns-in-Some-7
returns-in-Some-7 c =
    let m = c.args.cx.now.candidate.now in
    let types = kind_judged m 0 (none_judged m) (rw c.in_default.is at c.first_invalid_type.ensures) in
    let imports = kind_judged m 1 types (rw c.in_default-2.is at c.in_ok-index.ensures) in
    let tables = kind_judged m 2 imports (rw c.in_default-3.is at c.in_ok-index-2.ensures) in
    let memories = kind_judged m 3 tables (λ j is. c.if-not-are_memories_valid.ensures.0 refl) in
    let tags = kind_judged m 4 memories (rw c.in_default-4.is at c.in_ok-index-3.ensures) in
    let globals = kind_judged m 5 tags (rw c.in_default-5.is at c.in_ok-index-4.ensures) in
    let elements = kind_judged m 6 globals (rw c.in_default-6.is at c.in_ok-index-5.ensures) in
    let first = rw c.in-Some-7.is at c.in_ok-index-6.ensures in
    (c.requires.within, invalid_at m (DataItem c.in-Some-7.index) elements first.0 first.1 first.2)

pub returns-then-not-is_start_valid : goal.returns-then-not-is_start_valid
returns-then-not-is_start_valid c =
    let m = c.args.cx.now.candidate.now in
    let types = kind_judged m 0 (none_judged m) (rw c.in_default.is at c.first_invalid_type.ensures) in
    let imports = kind_judged m 1 types (rw c.in_default-2.is at c.in_ok-index.ensures) in
    let tables = kind_judged m 2 imports (rw c.in_default-3.is at c.in_ok-index-2.ensures) in
    let memories = kind_judged m 3 tables (λ j is. c.if-not-are_memories_valid.ensures.0 refl) in
    let tags = kind_judged m 4 memories (rw c.in_default-4.is at c.in_ok-index-3.ensures) in
    let globals = kind_judged m 5 tags (rw c.in_default-5.is at c.in_ok-index-4.ensures) in
    let elements = kind_judged m 6 globals (rw c.in_default-6.is at c.in_ok-index-5.ensures) in
    let datas = kind_judged m 7 elements (rw c.in_default-7.is at c.in_ok-index-6.ensures) in
    let first = c.is_start_valid.ensures.invalid c.if-not-is_start_valid.true in
    (c.requires.within, invalid_at m StartItem datas first.0 first.1 (λ j lt. absurd (omega arith)))

pub returns : goal.returns
returns c =
    let m = c.args.cx.now.candidate.now in
    let types = kind_judged m 0 (none_judged m) (rw c.in_default.is at c.first_invalid_type.ensures) in
    let imports = kind_judged m 1 types (rw c.in_default-2.is at c.in_ok-index.ensures) in
    let tables = kind_judged m 2 imports (rw c.in_default-3.is at c.in_ok-index-2.ensures) in
    let memories = kind_judged m 3 tables (λ j is. c.if-not-are_memories_valid.ensures.0 refl) in
    let tags = kind_judged m 4 memories (rw c.in_default-4.is at c.in_ok-index-3.ensures) in
    let globals = kind_judged m 5 tags (rw c.in_default-5.is at c.in_ok-index-4.ensures) in
    let elements = kind_judged m 6 globals (rw c.in_default-6.is at c.in_ok-index-5.ensures) in
    let datas = kind_judged m 7 elements (rw c.in_default-7.is at c.in_ok-index-6.ensures) in
    before_exports m (kind_judged m 8 datas (λ j is. c.is_start_valid.ensures.typed c.if-not-is_start_valid.false is))

-- A continuation is put into the store, and its reference onto the innermost segment.
use Rattle.std.proofs.Common.{◌≡◌, ℕ, ◌+◌, ◌<◌, true, List, Some, None, length, arith}
use Rattle.std.specs.Prelude.{slice_set}
use Rattle.w_segment.specs.Holds.{Holds}
use Rattle.w_segment.specs.Shape.{Shape}
use Rattle.w_segment.specs.Link.{Link, with_top}
use Rattle.w_conts.specs.Conts.{Conts, KeepsReferences, kept_at, with_entry, without_entry, with_spare}
use Rattle.w_conts.proofs.EntryCounts.{count_more, count_less}
use Rattle.w_switching.specs.declared.stored.Stored.{Stored}
use Rattle.w_switching.specs.Sound.{is_of, IsGood, SoundWith, Sound}
use Rattle.w_switching.proofs.References.{More, links_more, hold_with, each_without, each_with, each_more, good_more, entry_kept, segments_without, segments_with, more_of, long_top}

-- one slot more
pub reserve_sound : (chain : List Link) (conts : Conts Stored) → Sound chain conts → SoundWith 1 chain (with_spare (conts.spare + 1) conts)
reserve_sound chain conts s = record { references = s.references; stored = s.stored; slots = (let d = s.slots in omega (arith, d)) }

-- one continuation taken out: as many slots more as it has segments
pub take_sound : (chain : List Link) (conts : Conts Stored) (a : ℕ) (b : Stored) → Sound chain conts → kept_at conts a ≡ Some b → KeepsReferences conts (without_entry a conts) →
    SoundWith (length b.segment.value) chain (without_entry a conts)
take_sound chain conts a b s z k =
    let after = without_entry a conts in
    let more : More (is_of conts) (is_of after) = more_of conts after k in
    let e = entry_kept conts a b z in
    let c = segments_without conts.entries a e.place b e.is in
    let l = count_less conts.entries a (e.place, b) e.is in
    let d = s.slots in
    record {
      references = links_more (is_of conts) (is_of after) more chain s.references;
      stored = each_more (IsGood (is_of conts)) (IsGood (is_of after)) (good_more (is_of conts) (is_of after) more) (slice_set conts.entries a None)
          (each_without (IsGood (is_of conts)) conts.entries a s.stored);
      slots = omega (arith, d, c, l);
    }

-- other operands inside, whose references are of the store
pub top_sound : (n : ℕ) (chain : List Link) (conts : Conts Stored) (s' : Shape) → SoundWith n chain conts → Holds (λ v. is_of conts v ≡ true) s' → SoundWith n (with_top s' chain) conts
top_sound n chain conts s' s h = record {
  references = hold_with (is_of conts) s' chain h s.references;
  stored = s.stored;
  slots = (let d = s.slots in let l = long_top s' chain in omega (arith, d, l));
}

-- a continuation that takes up the slots of its segments
pub put_sound : (chain : List Link) (conts : Conts Stored) (place : ℕ) (b : Stored) → SoundWith (length b.segment.value) chain conts → 0 < conts.spare → IsGood (is_of conts) b →
    KeepsReferences conts (with_entry place b conts) → Sound chain (with_entry place b conts)
put_sound chain conts place b s w good k =
    let after = with_entry place b conts in
    let more : More (is_of conts) (is_of after) = more_of conts after k in
    let c = segments_with conts.entries place b in
    let l = count_more conts.entries (place, b) in
    let d = s.slots in
    record {
      references = links_more (is_of conts) (is_of after) more chain s.references;
      stored = each_with (IsGood (is_of after)) conts.entries place b (good_more (is_of conts) (is_of after) more b good)
          (each_more (IsGood (is_of conts)) (IsGood (is_of after)) (good_more (is_of conts) (is_of after) more) conts.entries s.stored);
      slots = omega (arith, d, c, l, w);
    }

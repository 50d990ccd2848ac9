-- Room, as segments and entries change.
use Rattle.std.proofs.Common.{◌≡◌, ◌≤◌, ℕ, zero, suc, ◌+◌, List, [], ◌∷◌, ◌++◌, Some, length, slice_get, refl, sym, subst, take, drop}
use Rattle.lists.specs.Rows.{Row}
use Rattle.w_types.specs.declared.value.Value.{Value}
use Rattle.w_syntax.specs.Code.{Code}
use Rattle.w_syntax.specs.declared.module.Module.{Module}
use Rattle.w_segment.specs.declared.entry.Stage.TheVariants.{Body}
use Rattle.w_segment.specs.Shape.{Shape, below_all}
use Rattle.w_segment.specs.Changes.{pushed, discarded, moved}
use Rattle.w_segment.specs.Link.{Link, IsNew, top, rest, with_top, with_clauses}
use Rattle.w_conts.specs.Conts.{Conts, kept_at, with_entry, with_spare, without_entry}
use Rattle.w_reduce.specs.Room.{most_operands, function_in, held_in}
use Rattle.w_reduce.specs.Values.{Val}
use Rattle.w_reduce.specs.Terms.{Rest, rest_of, Context}
use Rattle.w_stands.specs.Room.{HasRoom}
use Rattle.w_stands.proofs.RoomOfFrames.{measured}
use Rattle.w_stands.proofs.AtInstructions.{here}
use Rattle.w_switching.specs.declared.stored.Stored.{Stored}
use Rattle.w_switching.specs.Moved.{passed, merged, Bound, Captured, Exchanged}
use Rattle.w_switching.specs.Standing.{Chained}
use Rattle.w_switching.specs.Sound.{LinksRoom, Roomy}
use Rattle.w_switching.proofs.AtSwitchingInstruction.{head}
use Rattle.w_switching.proofs.References.{each_at, each_with, each_without}

-- ## Lists of segments

module _ (m : Module) where
  -- joined
  links_append : (xs ys : List Link) → LinksRoom m xs → LinksRoom m ys → LinksRoom m (xs ++ ys)
  links_append [] ys h g = g
  links_append (x ∷ xs) ys h g = (h.0, links_append xs ys h.1 g)

  -- the first ones
  pub links_take : (n : ℕ) (xs : List Link) → LinksRoom m xs → LinksRoom m (take n xs)
  links_take zero xs h = tt
  links_take (suc n) [] h = tt
  links_take (suc n) (x ∷ xs) h = (h.0, links_take n xs h.1)

  -- the others
  pub links_drop : (n : ℕ) (xs : List Link) → LinksRoom m xs → LinksRoom m (drop n xs)
  links_drop zero xs h = h
  links_drop (suc n) [] h = tt
  links_drop (suc n) (x ∷ xs) h = links_drop n xs h.1

  -- all but the innermost
  pub links_rest : (xs : List Link) → LinksRoom m xs → LinksRoom m (rest xs)
  links_rest [] h = tt
  links_rest (x ∷ xs) h = h.1

  -- with another stack inside
  pub links_with : (s : Shape) (xs : List Link) → HasRoom m s → LinksRoom m xs → LinksRoom m (with_top s xs)
  links_with s [] g h = tt
  links_with s (x ∷ xs) g h = (g, h.1)

  -- waiting at another place
  links_clauses : (n : ℕ) (xs : List Link) → LinksRoom m xs → LinksRoom m (with_clauses n xs)
  links_clauses n [] h = tt
  links_clauses n (x ∷ xs) h = h

  -- the innermost one
  pub links_top : (xs : List Link) → LinksRoom m xs → HasRoom m (top xs).shape
  links_top [] h = tt
  links_top (x ∷ xs) h = h.0

  -- of what is stored
  abbrev pub StoredRoom : Stored → Type 0
  StoredRoom b = LinksRoom m b.segment.value

  -- ## As segments move

  -- one that was stored
  pub segments_roomy : (chain : List Link) (conts : Conts Stored) (a : ℕ) (b : Stored) → Roomy m chain conts → kept_at conts a ≡ Some b → LinksRoom m b.segment.value
  segments_roomy chain conts a b h is = each_at StoredRoom conts.entries a b is h.stored

  -- without one that is taken
  pub take_roomy : (chain : List Link) (conts conts' : Conts Stored) (a : ℕ) → conts' ≡ without_entry a conts → Roomy m chain conts → Roomy m chain conts'
  take_roomy chain conts conts' a is h = subst (Roomy m chain) (sym is) (record { running = h.running; stored = each_without StoredRoom conts.entries a h.stored })

  -- with one more that is stored, and other segments
  with_one : (chain chain' : List Link) (conts conts' : Conts Stored) (place : ℕ) (b : Stored) → conts' ≡ with_entry place b conts → LinksRoom m b.segment.value → LinksRoom m chain' → Roomy m chain conts → Roomy m chain' conts'
  with_one chain chain' conts conts' place b is room running h =
      subst (Roomy m chain') (sym is) (record { running = running; stored = each_with StoredRoom conts.entries place b room h.stored })

  -- a continuation that was made
  pub new_roomy : (f params : ℕ) (chain : List Link) (conts conts' : Conts Stored) (place : ℕ) (b : Stored) (g : Shape) (p : ℕ) (v : Value) → conts' ≡ with_entry place b conts
      → IsNew f params b.segment.value → g ≡ moved p (pushed v (discarded 1 (top chain).shape)) → Roomy m chain conts → Roomy m (with_top g chain) conts'
  new_roomy f params chain conts conts' place b g p v is new after h =
      with_one chain (with_top g chain) conts conts' place b is (subst (LinksRoom m) (sym new.is) (tt, tt))
      (links_with g chain (subst (HasRoom m) (sym after) (links_top chain h.running)) h.running) h

  -- one that took arguments
  pub bind_roomy : (n takes : ℕ) (segs chain : List Link) (conts : Conts Stored) (chain' : List Link) (conts' : Conts Stored) → Bound n takes segs chain conts chain' conts'
      → LinksRoom m segs → Roomy m chain conts → Roomy m chain' conts'
  bind_roomy n takes segs chain conts chain' conts' d room h =
      with_one chain chain' conts conts' d.place d.b d.conts_after
      (subst (LinksRoom m) (sym d.part) (links_with _ segs (links_top segs room) room))
      (subst (LinksRoom m) (sym d.chain_after) (links_with _ chain (links_top chain h.running) h.running)) h

  -- segments that went inside others
  pub pass_roomy : (n : ℕ) (segs chain chain' : List Link) (conts : Conts Stored) → chain' ≡ passed n segs chain → LinksRoom m segs → Roomy m chain conts → Roomy m chain' conts
  pass_roomy n segs chain chain' conts is room h = record {
    running = subst (LinksRoom m) (sym is)
        (links_append _ _ (links_with _ segs (links_top segs room) room) (links_clauses (top chain).shape.place _ (links_with _ chain (links_top chain h.running) h.running)));
    stored = h.stored;
  }

  -- segments that were stored up to a handle
  pub capture_roomy : (n takes layer label : ℕ) (chain : List Link) (conts : Conts Stored) (chain' : List Link) (conts' : Conts Stored) → Captured n takes layer label chain conts chain' conts'
      → Roomy m chain conts → Roomy m chain' conts'
  capture_roomy n takes layer label chain conts chain' conts' d h =
      let outside = links_drop (layer + 1) chain h.running in
      with_one chain chain' conts conts' d.place d.b d.conts_after
      (subst (LinksRoom m) (sym d.stored) (links_with _ (take (layer + 1) chain) (links_top chain h.running) (links_take (layer + 1) chain h.running)))
      (subst (LinksRoom m) (sym d.chain_after) (links_with _ (drop (layer + 1) chain) (links_top (drop (layer + 1) chain) outside) outside)) h

  -- segments that gave way to others
  pub exchange_roomy : (n takes layer : ℕ) (segs chain : List Link) (conts : Conts Stored) (chain' : List Link) (conts' : Conts Stored) → Exchanged n takes layer segs chain conts chain' conts'
      → LinksRoom m segs → Roomy m chain conts → Roomy m chain' conts'
  exchange_roomy n takes layer segs chain conts chain' conts' d room h =
      with_one chain chain' conts conts' d.place d.b d.conts_after
      (subst (LinksRoom m) (sym d.stored) (links_with _ (take (layer + 1) chain) (links_top chain h.running) (links_take (layer + 1) chain h.running)))
      (subst (LinksRoom m) (sym d.chain_after) (links_append _ (drop (layer + 1) chain) (links_with _ segs (links_top segs room) room) (links_drop (layer + 1) chain h.running))) h

  -- values that went onto those of the segment that waited
  pub merge_roomy : (chain chain' : List Link) (conts conts' : Conts Stored) (n : ℕ) → chain' ≡ merged chain → conts' ≡ with_spare n conts → Roomy m chain conts → Roomy m chain' conts'
  merge_roomy chain chain' conts conts' n is after h =
      let outside = links_rest chain h.running in
      subst (Roomy m chain') (sym after)
      (record { running = subst (LinksRoom m) (sym is) (links_with _ (rest chain) (links_top (rest chain) outside) outside); stored = h.stored })

-- ## What a typed configuration tells of room

-- the innermost of segments that stand in a body has room for operands that its function has somewhere
pub room_at : {m : Module} {outer : Context} {behind : Rest} {chain : List Link} {e : Context} {vs : Row Val} {c : Code} → Chained m outer behind chain e vs (rest_of c) → (top chain).shape.stage ≡ Body
    → LinksRoom m chain → (n : ℕ) → ((f : ℕ) → function_in e ≡ Some f → held_in e + n ≤ most_operands m f) → below_all (top chain).shape.levels + n ≤ (top chain).shape.capacity.operands
room_at {m} {chain = chain} k stage room n few =
    let h = head k in
    let w = here h.stands stage in
    let measures = measured w.around (top chain).shape.capacity (links_top m chain room) in
    measures.operands n (few (top chain).shape.func measures.function)

-- the last of a list
pub get_end : {A : Type 0} (xs : List A) (x : A) → slice_get (xs ++ x ∷ []) (length xs) ≡ Some x
get_end [] x = refl
get_end (y ∷ ys) x = get_end ys x

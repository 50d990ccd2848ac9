-- The words of the operands of blocks, where blocks begin and end.
use Rattle.std.proofs.Common.{◌≡◌, List, [], ◌∷◌, ◌++◌, sym, subst}
use Rattle.w_canon.specs.declared.entry.Entry.{Entry}
use Rattle.w_rows.specs.Operands.{AreWorded}
use Rattle.w_flow.specs.View.{HasWords}
use Rattle.w_flow.specs.declared.flow.Flow.{Flow}
use Rattle.w_steps.specs.FramesWorded.{EachHasWords}
use Rattle.w_steps.specs.declared.frame.Frame.{Frame}

module _ (es : List Entry) where
  behind : (fs : List Frame) (f : Frame) → EachHasWords es fs → HasWords es f.flow → EachHasWords es (fs ++ f ∷ [])
  behind [] f a h = (h, tt)
  behind (g ∷ fs) f a h = (a.0, behind fs f a.1 h)

  before : (fs : List Frame) (f : Frame) → EachHasWords es (fs ++ f ∷ []) → EachHasWords es fs × HasWords es f.flow
  before [] f a = (tt, a.0)
  before (g ∷ fs) f a = let b = before fs f a.1 in ((a.0, b.0), b.1)

  -- a block more around
  pub each_pushed : (old new : List Frame) (f : Frame) → new ≡ old ++ f ∷ [] → EachHasWords es old → HasWords es f.flow → EachHasWords es new
  each_pushed old new f e a h = subst (EachHasWords es) (sym e) (behind old f a h)

  -- one less
  pub each_popped : (old new : List Frame) (f : Frame) → old ≡ new ++ f ∷ [] → EachHasWords es old → EachHasWords es new
  each_popped old new f e a = (before new f (subst (EachHasWords es) e a)).0

  -- the innermost of those around
  pub last_popped : (old new : List Frame) (f : Frame) → old ≡ new ++ f ∷ [] → EachHasWords es old → HasWords es f.flow
  last_popped old new f e a = (before new f (subst (EachHasWords es) e a)).1

  -- none
  pub each_none : (new : List Frame) → new ≡ [] → EachHasWords es new
  each_none new e = subst (EachHasWords es) (sym e) tt

  pub each_same : (old new : List Frame) → new ≡ old → EachHasWords es old → EachHasWords es new
  each_same old new e a = subst (EachHasWords es) (sym e) a

  -- a flow of no operands
  pub no_words : (f : Flow) → f.operands ≡ [] → HasWords es f
  no_words f e = subst (AreWorded es) (sym e) tt

  -- another frame in the place of one
  pub words_moved : (f g : Frame) → g ≡ f → HasWords es f.flow → HasWords es g.flow
  words_moved f g e h = subst (λ (x : Frame). HasWords es x.flow) (sym e) h

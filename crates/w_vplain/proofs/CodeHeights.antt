-- The number of operands and the peak of sequences that stand one after another.
use Rattle.std.proofs.Common.{◌≡◌, ℕ, ◌-◌, ◌≤◌, max, Bool, List, Option, Some, None, refl, sym, ◌∙◌, ap, arith}
use Rattle.w_syntax.specs.Code.{Code, Done, Plain, Block, If, IfElse, after}
use Rattle.w_rules.specs.Context.{Context, Arrow, arrow_of}
use Rattle.w_rules.specs.InstructionTypes.{instr_type, sets}
use Rattle.w_rules.specs.Peak.{net, or_none, in_arrow, moved, past_net, past_arrow, extra, peak}
use Rattle.w_rules.specs.Typing.{set_by}
use Rattle.w_flow.specs.Flow.{◌>>=◌}
use Rattle.w_vplain.specs.Measures.{height}
use Rattle.w_vplain.proofs.Options.{Whenever, whenever_map, bind_assoc, bind_same}

-- the second sequence begins where the first one ends
pub height-after : (c : Context) (s : List Bool) (d k : Code) (h : ℕ) → height c s (after d k) h ≡ (height c s d h >>= λ g. height c (set_by d s) k g)
unfolding after
height-after c s Done k h = refl
height-after c s (Plain o d) k h =
    bind_same (net (instr_type c s o)) _ _ (λ n. height-after c (sets o s) d k (moved h n)) ∙ sym (bind_assoc (net (instr_type c s o)) _ _)
height-after c s (Block b x i d) k h =
    bind_same (arrow_of c x) _ _ (λ a. height-after c s d k (past_arrow a h)) ∙ sym (bind_assoc (arrow_of c x) _ _)
height-after c s (If x i d) k h =
    bind_same (arrow_of c x) _ _ (λ a. height-after c s d k (past_arrow a (h - 1))) ∙ sym (bind_assoc (arrow_of c x) _ _)
height-after c s (IfElse x i j d) k h =
    bind_same (arrow_of c x) _ _ (λ a. height-after c s d k (past_arrow a (h - 1))) ∙ sym (bind_assoc (arrow_of c x) _ _)

-- the greatest of three
max_three : (a b c : ℕ) → max a (max b c) ≡ max (max a b) c
max_three a b c = omega arith

-- of four
max_four : (a b c d : ℕ) → max a (max b (max c d)) ≡ max (max a (max b c)) d
max_four a b c d = omega arith

-- of one and nothing
max_zero : (a : ℕ) → a ≡ max a 0
max_zero a = omega arith

-- behind an instruction that holds no others
after_net : (o : Option (ℕ × ℕ)) (b h : ℕ) (f g : ℕ → ℕ) (k : ℕ → Option ℕ) (r : ℕ → ℕ) → ((m : ℕ) → f m ≡ max (g m) (or_none (k m) r)) →
    max b (past_net o h f) ≡ max (max b (past_net o h g)) (or_none (o >>= λ n. k (moved h n)) r)
after_net None b h f g k r e = max_zero (max b 0)
after_net (Some n) b h f g k r e = ap (max b) (e (moved h n)) ∙ max_three b (g (moved h n)) (or_none (k (moved h n)) r)

-- behind a block
after_arrow : (o : Option Arrow) (h : ℕ) (b f g : Arrow → ℕ) (k : Arrow → Option ℕ) (r : ℕ → ℕ) → ((a : Arrow) → f a ≡ max (g a) (or_none (k a) r)) →
    max h (in_arrow o (λ (a : Arrow). max (b a) (f a))) ≡ max (max h (in_arrow o (λ (a : Arrow). max (b a) (g a)))) (or_none (o >>= k) r)
after_arrow None h b f g k r e = max_zero (max h 0)
after_arrow (Some a) h b f g k r e = ap (λ z. max h (max (b a) z)) (e a) ∙ max_four h (b a) (g a) (or_none (k a) r)

-- the beginning is below the peak
pub least : (c : Context) (s : List Bool) (k : Code) (h : ℕ) → h ≤ peak c s k h
least c s Done h = omega arith
least c s (Plain o k) h = omega arith
least c s (Block b x i k) h = omega arith
least c s (If x i k) h = omega arith
least c s (IfElse x i j k) h = omega arith

-- the peak of both is the greater one
pub peak-after : (c : Context) (s : List Bool) (d k : Code) (h : ℕ) →
    peak c s (after d k) h ≡ max (peak c s d h) (or_none (height c s d h) (peak c (set_by d s) k))
unfolding after
peak-after c s Done k h = omega (arith, least c s k h)
peak-after c s (Plain o d) k h = after_net (net (instr_type c s o)) (max h (extra c o h)) h (peak c (sets o s) (after d k)) (peak c (sets o s) d) (height c (sets o s) d) (peak c (set_by d (sets o s)) k)
    (λ m. peak-after c (sets o s) d k m)
peak-after c s (Block b x i d) k h = after_arrow (arrow_of c x) h _ _ _ _ _ (λ a. peak-after c s d k (past_arrow a h))
peak-after c s (If x i d) k h = after_arrow (arrow_of c x) h _ _ _ _ _ (λ a. peak-after c s d k (past_arrow a (h - 1)))
peak-after c s (IfElse x i j d) k h = after_arrow (arrow_of c x) h _ _ _ _ _ (λ a. peak-after c s d k (past_arrow a (h - 1)))

-- behind an instruction that holds no others
net_below : (o : Option (ℕ × ℕ)) (b h : ℕ) (f : ℕ → ℕ) (k : ℕ → Option ℕ) → ((m : ℕ) → Whenever (k m) (λ (g : ℕ). g ≤ f m)) →
    Whenever (o >>= λ n. k (moved h n)) (λ (g : ℕ). g ≤ max b (past_net o h f))
net_below None b h f k e = tt
net_below (Some n) b h f k e = whenever_map (k (moved h n)) _ _ (e (moved h n)) (λ g le. omega arith)

-- behind a block
arrow_below : (o : Option Arrow) (h : ℕ) (b f : Arrow → ℕ) (k : Arrow → Option ℕ) → ((a : Arrow) → Whenever (k a) (λ (g : ℕ). g ≤ f a)) →
    Whenever (o >>= k) (λ (g : ℕ). g ≤ max h (in_arrow o (λ (a : Arrow). max (b a) (f a))))
arrow_below None h b f k e = tt
arrow_below (Some a) h b f k e = whenever_map (k a) _ _ (e a) (λ g le. omega arith)

-- the end is below the peak
pub end_below : (c : Context) (s : List Bool) (d : Code) (h : ℕ) → Whenever (height c s d h) (λ (g : ℕ). g ≤ peak c s d h)
end_below c s Done h = omega arith
end_below c s (Plain o d) h = net_below (net (instr_type c s o)) (max h (extra c o h)) h (peak c (sets o s) d) (height c (sets o s) d) (λ m. end_below c (sets o s) d m)
end_below c s (Block b x i d) h = arrow_below (arrow_of c x) h _ _ _ (λ a. end_below c s d (past_arrow a h))
end_below c s (If x i d) h = arrow_below (arrow_of c x) h _ _ _ (λ a. end_below c s d (past_arrow a (h - 1)))
end_below c s (IfElse x i j d) h = arrow_below (arrow_of c x) h _ _ _ (λ a. end_below c s d (past_arrow a (h - 1)))

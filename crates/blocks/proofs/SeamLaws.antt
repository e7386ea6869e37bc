-- Walks over two rows of pages that agree but for a run: they answer the same. Assumes nothing.
use Rattle.std.proofs.Common.{◌≡◌, ℕ, zero, suc, ◌+◌, ◌<◌, ◌≤◌, false, List, [], ◌∷◌, length, get_or, sym, refl, ap, ◌∙◌, subst, ap₂, add-zero, arith}
use mathlib.Core.Option.{Option, none, some}
use Rattle.records.specs.declared.Kind.{Kind}
use Rattle.records.specs.declared.Kind.TheVariants.{Free, Inner}
use Rattle.records.specs.Sound.{step, follow}
use Rattle.records.proofs.Flags.{cond_eq}
use Rattle.records.proofs.WalkLaws.{walk, walk_step, Begins}

walk_open : (K : ℕ → Kind) (st : List ℕ) (g n : ℕ) → walk K st g (suc n) ≡ follow (step st (K g)) (λ t. walk K t (suc g) n)
unfolding walk
walk_open K [] g n = refl
walk_open K (w ∷ ws) g n = refl

-- pages that agree up to page g leave the answer to the M pages from there on
pub walk_agree : (K K' : ℕ → Kind) (g M : ℕ) → ((t : List ℕ) → walk K t g M ≡ walk K' t g M)
    → (d : ℕ) (st : List ℕ) (i n : ℕ) → i + d ≡ g → d + M ≡ n → ((j : ℕ) → i ≤ j → j < g → K j ≡ K' j) → walk K st i n ≡ walk K' st i n
walk_agree K K' g M h zero st i n p q a =
    let p' : g ≡ i = omega arith in let q' : M ≡ n = omega arith in
    subst (λ (j : ℕ). walk K st j n ≡ walk K' st j n) p' (subst (λ (m : ℕ). walk K st g m ≡ walk K' st g m) q' (h st))
walk_agree K K' g M h (suc d) st i zero p q a = absurd (omega arith)
walk_agree K K' g M h (suc d) st i (suc n) p q a =
    walk_open K st i n
    ∙ ap₂ follow (ap (step st) (a i (omega arith) (omega arith)))
    (λ x t. walk_agree K K' g M h d t (suc i) n (omega arith) (omega arith) (λ j b c. a j (omega arith) c) x)
    ∙ sym (walk_open K' st i n)

-- so pages that agree to the end are walked the same
pub walk_same : (K K' : ℕ → Kind) (st : List ℕ) (g n : ℕ) → ((j : ℕ) → g ≤ j → K j ≡ K' j) → walk K st g n ≡ walk K' st g n
unfolding walk
walk_same K K' st g n h = walk_agree K K' (g + n) 0 none_left n st g n (omega arith) (omega arith) (λ j a b. h j a)
  where
    none_left : (t : List ℕ) → walk K t (g + n) 0 ≡ walk K' t (g + n) 0
    none_left [] = refl
    none_left (w ∷ ws) = refl

-- a page that no run has inside ends a walk that expects words
pub walk_stuck : (K : ℕ → Kind) (w : ℕ) (ws : List ℕ) (g n : ℕ) → Begins (K g) → walk K (w ∷ ws) g (suc n) ≡ false
walk_stuck K w ws g n b = walk_open K (w ∷ ws) g n ∙ go (step (w ∷ ws) (K g)) refl
  where
    go : (o : Option (List ℕ)) → step (w ∷ ws) (K g) ≡ o → follow o (λ t. walk K t (suc g) n) ≡ false
    go none e = refl
    go (some t) e = absurd (b w ws t e)

-- free pages are walked over
pub walk_free : (K : ℕ → Kind) (d g n h m : ℕ) → g + d ≡ h → d + m ≡ n → ((i : ℕ) → g ≤ i → i < h → K i ≡ Free) → walk K [] g n ≡ walk K [] h m
walk_free K zero g n h m p q f =
    let p' : g ≡ h = omega arith in let q' : n ≡ m = omega arith in ap₂ (walk K []) p' q'
walk_free K (suc d) g zero h m p q f = absurd (omega arith)
walk_free K (suc d) g (suc n) h m p q f =
    walk_step K [] [] g n (ap (step []) (f g (omega arith) (omega arith)))
    ∙ walk_free K d (suc g) n h m (omega arith) (omega arith) (λ i a b. f i (omega arith) b)

-- and so are the pages of a run behind its first
pub walk_inner : (K : ℕ → Kind) (ws : List ℕ) (g n h m : ℕ) → g + length ws ≡ h → length ws + m ≡ n
    → ((i : ℕ) → i < length ws → K (g + i) ≡ Inner (get_or ws i 0)) → walk K ws g n ≡ walk K [] h m
walk_inner K [] g n h m p q f =
    let p' : g ≡ h = omega arith in let q' : n ≡ m = omega arith in ap₂ (walk K []) p' q'
walk_inner K (w ∷ ws) g zero h m p q f = absurd (omega arith)
walk_inner K (w ∷ ws) g (suc n) h m p q f =
    walk_step K (w ∷ ws) ws g n
    (ap (step (w ∷ ws)) (ap K (sym (add-zero g)) ∙ f 0 (omega arith)) ∙ cond_eq w w (some ws) none refl)
    ∙ walk_inner K ws (suc g) n h m (omega arith) (omega arith) (λ i a. ap K (omega arith) ∙ f (suc i) (omega arith))

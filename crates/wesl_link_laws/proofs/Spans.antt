-- Where the blocks of held declarations stand in a linked unit.
use Rattle.std.proofs.Common.{◌≡◌, inl, inr, ℕ, ◌+◌, ◌<◌, List, [], sym, ap, ◌∙◌, arith}
use Rattle.wesl_tree_names.specs.Path.{Path}
use Rattle.wesl_scope_occurrences.specs.Occurrences.{Block}
use Rattle.wesl_scope_meanings.specs.Keys.{number_of}
use Rattle.wesl_link_laws.proofs.Lists.{InOrder}
use Rattle.wesl_link_laws.proofs.Parts.{blocks_of}
use Rattle.wesl_link_laws.proofs.Sources.{Source, Before}
use Rattle.wesl_link_laws.proofs.Laid.{LaidAt, Apart, one, ahead, behind, laid_after, apart}

-- the sources are laid from place `p` and block `q` on, and `way` tells each block of the unit by its number
module _ (way : ℕ → Block) (p q : ℕ) (ss : List Source) where
  -- block k of the module at the path is the block b of the unit
  pub record At (path : Path) (k : ℕ) (b : Block) : Type 0 where
    pub source : Source
    pub placed : ℕ
    pub numbered : ℕ
    pub laid : LaidAt p q ss source placed numbered
    pub step : ℕ
    pub small : step < blocks_of source.declaration
    pub home : path ≡ source.home.path
    pub there : k ≡ source.number + step
    pub here : number_of b ≡ numbered + step
    pub known : b ≡ way (number_of b)

  module _ (ordered : InOrder Before ss) (inner : 0 < q) where
    pub one_block : (path : Path) (k : ℕ) (b c : Block) → At path k b → At path k c → b ≡ c
    one_block path k b c h i = by (apart ss p q ordered h.source h.placed h.numbered i.source i.placed i.numbered h.laid i.laid)
      where
        clash : (s t : Source) (x y : ℕ) → path ≡ s.home.path → path ≡ t.home.path → k ≡ s.number + x → k ≡ t.number + y → x < blocks_of s.declaration → Before s t → ⊥
        clash s t x y es et ks kt small (inl differ) = differ (sym es ∙ et)
        clash s t x y es et ks kt small (inr less) = omega (arith, ks, kt, small, less)

        by : Apart h.source h.placed h.numbered i.source i.placed i.numbered → b ≡ c
        by (one e ep eq) =
            let first : h.source.number ≡ i.source.number = ap (λ (s : Source). s.number) e in
            let ht = h.there in
            let it = i.there in
            let hh = h.here in
            let ih = i.here in
            let same : number_of b ≡ number_of c = omega (arith, first, ht, it, hh, ih, eq) in
            h.known ∙ (ap way same ∙ sym i.known)
        by (ahead units sources) = absurd (clash h.source i.source h.step i.step h.home i.home h.there i.there h.small sources)
        by (behind units sources) = absurd (clash i.source h.source i.step h.step i.home h.home i.there h.there i.small sources)

    pub one_place : (path other : Path) (k m : ℕ) (b : Block) → At path k b → At other m b → (path ≡ other) × (k ≡ m)
    one_place path other k m b h i = by (apart ss p q ordered h.source h.placed h.numbered i.source i.placed i.numbered h.laid i.laid)
      where
        by : Apart h.source h.placed h.numbered i.source i.placed i.numbered → (path ≡ other) × (k ≡ m)
        by (one e ep eq) =
            let first : h.source.number ≡ i.source.number = ap (λ (s : Source). s.number) e in
            let paths : h.source.home.path ≡ i.source.home.path = ap (λ (s : Source). s.home.path) e in
            let ht = h.there in
            let it = i.there in
            let hh = h.here in
            let ih = i.here in
            (h.home ∙ (paths ∙ sym i.home), omega (arith, first, ht, it, hh, ih, eq))
        by (ahead units sources) = let hh = h.here in let ih = i.here in let s = h.small in absurd (omega (arith, hh, ih, s, units))
        by (behind units sources) = let hh = h.here in let ih = i.here in let s = i.small in absurd (omega (arith, hh, ih, s, units))

    pub not_module : (path : Path) (k : ℕ) → At path k [] → ⊥
    not_module path k h =
        let e : 0 ≡ h.numbered + h.step = h.here in
        let r = laid_after ss p q h.source h.placed h.numbered h.laid in
        let n = r.0 in
        omega (arith, e, n, inner)

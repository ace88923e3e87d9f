-- The numbers of identifiers that stand for what their sources denote follow meanings.
use Rattle.std.proofs.Common.{◌≡◌, ◌≢◌, ℕ, true, false, ◌&&◌, List, [], Some, None, get_or, refl, sym, ap, ap₂, ◌∙◌, subst, ◌⊎◌, inl, inr, Contains}
use Rattle.std.specs.Prelude.{bytes_eq}
use Rattle.std.specs.List.{All}
use Rattle.std.proofs.lemmas.List.Elements.{All-contains, All-contains_itself}
use Rattle.std.proofs.lemmas.Slice.Eq.{bytes_eq-Decides}
use Rattle.wesl_tree_names.specs.Path.{Text, Path}
use Rattle.wesl_scope_occurrences.specs.Occurrences.{Block, Standing, module_name, parameter, local as local_name, reference, word, Occurrence, is_binder, is_unqualified}
use Rattle.wesl_scope_meanings.specs.Scopes.{free}
use Rattle.wesl_scope_numbers.specs.Faithful.{name_of}
use Rattle.wesl_scope_numbers.specs.Retargeted.{unbound_as, IsUnbound, FollowMeanings}
use Rattle.wesl_link_assembly.specs.Denotations.{DenotationOf, symbol, local, free_name}

abbrev pub Denotation : Type 0
Denotation = DenotationOf Path Text ℕ

-- `At p k b`: block k of the module at p is the block b of the unit
module _ (names : List Text) (all : List (Occurrence ℕ)) (means : ℕ → Denotation) (print : Denotation → Text) (At : Path → ℕ → Block → Type 0) where
  -- a binder stands for what a reference stands for
  abbrev pub IsBound : Denotation → Type 0
  IsBound d = (x : Occurrence ℕ) × Contains all x × (is_binder x.role ≡ true) × (means x.name ≡ d)

  -- what an identifier stands for, by how it stands
  abbrev pub StandsSo : Standing → Block → Denotation → Type 0
  StandsSo module_name b d = (b ≡ []) × ((p : Path) × (n : Text) × (d ≡ symbol p n))
  StandsSo parameter b d = (p : Path) × (k : ℕ) × (n : Text) × (d ≡ local p k n) × At p k b
  StandsSo (local_name e) b d = (p : Path) × (k : ℕ) × (n : Text) × (d ≡ local p k n) × At p k b
  StandsSo (reference None) b d = IsBound d ⊎ ((n : Text) × (d ≡ free_name n))
  StandsSo (reference (Some path)) b d = ⊥
  StandsSo word b d = (n : Text) × (d ≡ free_name n)

  pub record StandSo : Type 0 where
    pub each : All (λ o. StandsSo o.role o.block (means o.name)) all
    pub one_number : All (λ a. All (λ b. means a.name ≡ means b.name → a.name ≡ b.name) all) all
    pub named : All (λ o. name_of names all o ≡ print (means o.name)) all
    pub local_printed : (p : Path) (k : ℕ) (n : Text) → print (local p k n) ≡ n
    pub free_printed : (n : Text) → print (free_name n) ≡ n
    pub one_block : (p : Path) (k : ℕ) (b c : Block) → At p k b → At p k c → b ≡ c
    pub one_place : (p q : Path) (k m : ℕ) (b : Block) → At p k b → At q m b → (p ≡ q) × (k ≡ m)
    pub not_module : (p : Path) (k : ℕ) → At p k [] → ⊥

  data BinderSo (b : Block) (d : Denotation) : Type 0 where
    of_module : (p : Path) (n : Text) → b ≡ [] → d ≡ symbol p n → BinderSo b d
    of_block : (p : Path) (k : ℕ) (n : Text) → d ≡ local p k n → At p k b → BinderSo b d

  binder_so : (r : Standing) (b : Block) (d : Denotation) → is_binder r ≡ true → StandsSo r b d → BinderSo b d
  binder_so module_name b d h (e, (p, n, s)) = of_module p n e s
  binder_so parameter b d h (p, k, n, s, a) = of_block p k n s a
  binder_so (local_name e) b d h (p, k, n, s, a) = of_block p k n s a
  binder_so (reference path) b d h s = absurd (let z : ⊥ = cc in z)
  binder_so word b d h s = absurd (let z : ⊥ = cc in z)

  not_free : (b : Block) (d : Denotation) (n : Text) → BinderSo b d → d ≡ free_name n → ⊥
  not_free b d n (of_module p m e s) f = let x : symbol p m ≡ free_name n = sym s ∙ f in let z : ⊥ = cc in z
  not_free b d n (of_block p k m s a) f = let x : local p k m ≡ free_name n = sym s ∙ f in let z : ⊥ = cc in z

  module _ (so : StandSo) where
    same_block : (b c : Block) (d e : Denotation) → BinderSo b d → BinderSo c e → d ≡ e → b ≡ c
    same_block b c d e (of_module p n f s) (of_module q m g t) h = f ∙ sym g
    same_block b c d e (of_module p n f s) (of_block q j m t a) h = let x : symbol p n ≡ local q j m = sym s ∙ (h ∙ t) in absurd (let z : ⊥ = cc in z)
    same_block b c d e (of_block p k n s a) (of_module q m g t) h = let x : local p k n ≡ symbol q m = sym s ∙ (h ∙ t) in absurd (let z : ⊥ = cc in z)
    same_block b c d e (of_block p k n s a) (of_block q j m t i) h =
        let x : local p k n ≡ local q j m = sym s ∙ (h ∙ t) in
        let ep : q ≡ p = cc in
        let ek : j ≡ k = cc in
        so.one_block p k b c a (subst (λ z. At z k c) ep (subst (λ z. At q z c) ek i))

    same_meaning : (b c : Block) (d e : Denotation) → BinderSo b d → BinderSo c e → (b ≡ [] → ⊥) → b ≡ c → print d ≡ print e → d ≡ e
    same_meaning b c d e (of_module p n f s) other inner h named = absurd (inner f)
    same_meaning b c d e (of_block p k n s a) (of_module q m g t) inner h named = absurd (inner (h ∙ g))
    same_meaning b c d e (of_block p k n s a) (of_block q j m t i) inner h named =
        let places = so.one_place p q k j c (subst (At p k) h a) i in
        let en : n ≡ m = sym (so.local_printed p k n) ∙ (ap print (sym s) ∙ (named ∙ (ap print t ∙ so.local_printed q j m))) in
        s ∙ (ap (λ z. local z k n) places.0 ∙ (ap (λ z. local q z n) places.1 ∙ (ap (λ z. local q j z) en ∙ sym t)))

    global_in_module : (r : Standing) (b : Block) → is_binder r ≡ true → (is_binder r && bytes_eq b []) ≡ false → b ≡ [] → ⊥
    global_in_module r b h g e = let x : bytes_eq b [] ≡ true = (bytes_eq-Decides b []).1 e in let y : (true && true) ≡ false = ap₂ (λ i j. i && j) (sym h) (sym x) ∙ g in let z : ⊥ = cc in z

    free_named : (m n : Text) (d : Denotation) → m ≡ print d → d ≡ free_name n → m ≡ n
    free_named m n d e f = e ∙ (ap print f ∙ so.free_printed n)

    bound_number : (o x : Occurrence ℕ) → Contains all o → Contains all x → means x.name ≡ means o.name → x.name ≡ o.name
    bound_number o x here held same = All-contains (λ b. means x.name ≡ means b.name → x.name ≡ b.name) all o (All-contains (λ a. All (λ b. means a.name ≡ means b.name → a.name ≡ b.name) all) all x so.one_number held) here same

    unbound_free : (o : Occurrence ℕ) (r : Standing) → Contains all o → StandsSo r o.block (means o.name) → name_of names all o ≡ print (means o.name) → (is_binder r ≡ true → ⊥) → IsUnbound names all o → (n : Text) × (means o.name ≡ free_name n) × (unbound_as (name_of names all o) r ≡ free n)
    unbound_free o module_name e s named own u = absurd (own refl)
    unbound_free o parameter e s named own u = absurd (own refl)
    unbound_free o (local_name x) e s named own u = absurd (own refl)
    unbound_free o (reference (Some path)) e s named own u = absurd s
    unbound_free o word e (n, s) named own u = (n, s, ap free (free_named (name_of names all o) n (means o.name) named s))
    unbound_free o (reference None) e (inr (n, s)) named own u = (n, s, ap free (free_named (name_of names all o) n (means o.name) named s))
    unbound_free o (reference None) e (inl (x, held, b, same)) named own u = absurd (by (All-contains (λ y. is_binder y.role ≡ true → y.name ≢ o.name) all x u held b))
      where
        by : (x.name ≢ o.name) → ⊥
        by differs = differs (bound_number o x e held same)

    word_free : (r : Standing) (b : Block) (d : Denotation) → is_binder r ≡ false → is_unqualified r ≡ false → StandsSo r b d → (n : Text) × (d ≡ free_name n)
    word_free word b d h u s = s
    word_free (reference None) b d h u s = absurd (let z : ⊥ = cc in z)
    word_free (reference (Some path)) b d h u s = absurd s
    word_free module_name b d h u s = absurd (let z : ⊥ = cc in z)
    word_free parameter b d h u s = absurd (let z : ⊥ = cc in z)
    word_free (local_name x) b d h u s = absurd (let z : ⊥ = cc in z)

    same_free : (d : Denotation) (n m : Text) → d ≡ free_name n → d ≡ free_name m → n ≡ m
    same_free d n m e f = cc

    same_key : (n m : Text) → free n ≡ free m → n ≡ m
    same_key n m e = cc

    pub follow : FollowMeanings names all
    follow = record {
      one_block = λ i d hi ka j e hj kb n.
          let a = get_or all i d in
          let b = get_or all j e in
          same_block a.block b.block (means a.name) (means b.name) (binder_so a.role a.block (means a.name) ka (so.each i d hi)) (binder_so b.role b.block (means b.name) kb (so.each j e hj)) (ap means n);
      one_number = λ i d hi ka ga j e hj kb block spelled.
          let a = get_or all i d in
          let b = get_or all j e in
          so.one_number i d hi j e hj
          (same_meaning a.block b.block (means a.name) (means b.name) (binder_so a.role a.block (means a.name) ka (so.each i d hi)) (binder_so b.role b.block (means b.name) kb (so.each j e hj)) (global_in_module a.role a.block ka ga) block (sym (so.named i d hi) ∙ (spelled ∙ so.named j e hj)));
      words_unbound = λ i d hi nb nu j e hj kb same.
          let o = get_or all i d in
          let b = get_or all j e in
          let w = word_free o.role o.block (means o.name) nb nu (so.each i d hi) in
          not_free b.block (means b.name) w.0 (binder_so b.role b.block (means b.name) kb (so.each j e hj)) (ap means same ∙ w.1);
      unbound_apart = λ i d hi ua j e hj ub.
          let a = get_or all i d in
          let b = get_or all j e in
          let fa = unbound_free a a.role (All-contains_itself all i d hi) (so.each i d hi) (so.named i d hi) (λ k. ua i d hi k refl) ua in
          let fb = unbound_free b b.role (All-contains_itself all j e hj) (so.each j e hj) (so.named j e hj) (λ k. ub j e hj k refl) ub in (
            λ same. fa.2 ∙ (ap free (same_free (means a.name) fa.0 fb.0 fa.1 (ap means same ∙ fb.1)) ∙ sym fb.2),
            λ keys. so.one_number i d hi j e hj (fa.1 ∙ (ap free_name (same_key fa.0 fb.0 (sym fa.2 ∙ (keys ∙ fb.2))) ∙ sym fb.1)),
          );
    }

-- Names read to the end.
use Rattle.std.proofs.Common.{◌≡◌, ◌<◌, ◌≤◌, ℕ, zero, suc, Bool, true, false, not, cond, ◌&&◌, List, [], ◌∷◌, ◌++◌, length, take, drop, Option, Some, None, option_map, refl, ap, sym, ◌∙◌, ◌==◌, nat_le, arith, append_assoc, length-drop}
use Rattle.std.specs.List.{prefix_len}
use Rattle.std.specs.Char.{is_ascii_digit}
use Rattle.std.specs.Str.Parse.{digits_value}
use Rattle.wesl_tree_names.specs.Path.{Text}
use Rattle.wesl_mangle_forms.specs.Escape.{◌>>=◌, from_pieces, read_name, read_all_names}

pieces_left : Option (Text × List Text) → ℕ
pieces_left None = 0
pieces_left (Some x) = length x.1

left-cond : (b : Bool) (t : Text) (k : ℕ) (ps : List Text) → pieces_left (cond b (Some (t, drop k ps)) None) ≤ length ps
unfolding pieces_left
left-cond true t k ps = omega (arith, length-drop k ps)
left-cond false t k ps = omega arith

read_name-left : (ps : List Text) → 0 < length ps → pieces_left (read_name ps) < length ps
unfolding pieces_left
read_name-left [] h = absurd (omega arith)
read_name-left ((c ∷ cs) ∷ ps) h = omega arith
read_name-left ([] ∷ []) h = omega arith
read_name-left ([] ∷ q ∷ ps) h =
    let k = prefix_len is_ascii_digit q in
    let n = digits_value 10 (take k q) in
    let e = left-cond (not (k == 0) && nat_le n (length ps)) (from_pieces (drop k q ∷ take n ps)) n ps in
    omega (arith, e)

pub read_name-shorter : (ps : List Text) (n : Text) (rest : List Text) → 0 < length ps → read_name ps ≡ Some (n, rest) → length rest < length ps
unfolding pieces_left
read_name-shorter ps n rest h e = let a = read_name-left ps h in let b = ap pieces_left e in omega (arith, a, b)

abbrev and_all : ℕ → Text × List Text → Option (List Text)
and_all most x = do
  ns ← read_all_names most x.1
  Some (x.0 ∷ ns)

same-step : (a b : ℕ) (ps : List Text) (o : Option (Text × List Text)) → ((rest : List Text) → length rest ≤ a → length rest ≤ b → read_all_names a rest ≡ read_all_names b rest)
    → pieces_left o ≤ a → pieces_left o ≤ b → (o >>= and_all a) ≡ (o >>= and_all b)
unfolding pieces_left
same-step a b ps None ih h k = refl
same-step a b ps (Some x) ih h k = ap (λ (o : Option (List Text)). o >>= λ ns. Some (x.0 ∷ ns)) (ih x.1 h k)

-- more turns than pieces change nothing
pub same_names : (a b : ℕ) (ps : List Text) → length ps ≤ a → length ps ≤ b → read_all_names a ps ≡ read_all_names b ps
same_names a b [] h k = refl
same_names zero b (p ∷ ps) h k = absurd (omega arith)
same_names (suc a) zero (p ∷ ps) h k = absurd (omega arith)
same_names (suc a) (suc b) (p ∷ ps) h k =
    let l = read_name-left (p ∷ ps) (omega arith) in
    same-step a b ps (read_name (p ∷ ps)) (same_names a b) (omega (arith, l, h)) (omega (arith, l, k))

and-all-step : (names : List Text) (o : Option (Text × List Text)) (most : ℕ) (n : Text) (rest : List Text) → o ≡ Some (n, rest)
    → option_map (λ ns. names ++ ns) (o >>= and_all most) ≡ option_map (λ ns. (names ++ n ∷ []) ++ ns) (read_all_names most rest)
and-all-step names o most n rest e = ap (λ (o : Option (Text × List Text)). option_map (λ ns. names ++ ns) (o >>= and_all most)) e ∙ onto (read_all_names most rest)
  where
    onto : (r : Option (List Text)) → option_map (λ ns. names ++ ns) (r >>= λ ns. Some (n ∷ ns)) ≡ option_map (λ ns. (names ++ n ∷ []) ++ ns) r
    onto None = refl
    onto (Some ns) = ap (λ (xs : List Text). Some xs) (sym (append_assoc names (n ∷ []) ns))

-- one more name is read
pub names-more : (names : List Text) (ps : List Text) (n : Text) (rest : List Text) → 0 < length ps → read_name ps ≡ Some (n, rest)
    → option_map (λ ns. names ++ ns) (read_all_names (length ps) ps) ≡ option_map (λ ns. (names ++ n ∷ []) ++ ns) (read_all_names (length rest) rest)
names-more names [] n rest h e = absurd (omega arith)
names-more names (p ∷ ps) n rest h e =
    let l = read_name-shorter (p ∷ ps) n rest h e in
    and-all-step names (read_name (p ∷ ps)) (length ps) n rest e
    ∙ ap (option_map (λ (ns : List Text). (names ++ n ∷ []) ++ ns)) (same_names (length ps) (length rest) rest (omega (arith, l)) (omega arith))

none-step : (o : Option (Text × List Text)) (most : ℕ) → o ≡ None → (o >>= and_all most) ≡ None
none-step o most e = rw e refl

-- or none is
pub names-none : (ps : List Text) → 0 < length ps → read_name ps ≡ None → read_all_names (length ps) ps ≡ None
names-none [] h e = absurd (omega arith)
names-none (p ∷ ps) h e = none-step (read_name (p ∷ ps)) (length ps) e

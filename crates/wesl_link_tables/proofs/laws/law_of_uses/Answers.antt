use Rattle.std.proofs.Common.{◌≡◌, Bool, true, false, List, [], ◌∷◌, map, refl, ap, ◌∙◌}
use Rattle.wesl_tree_names.specs.Path.{Text, Path}
use Rattle.wesl_cond_choices.specs.declared.place.Place.{Place}
use Rattle.wesl_cond_choices.specs.declared.place.Place.TheVariants.{Name}
use Rattle.wesl_link_symbols.specs.declared.symbols.Reference.{Reference}
use Rattle.wesl_scope_occurrences.specs.Occurrences.{Standing, module_name, parameter, local as local_name, reference, word, Occurrence, occurrences}
use Rattle.wesl_scope_occurrences.specs.Pieces.{pieces}
use Rattle.wesl_scope_occurrences.proofs.Cutting.{pieces_are}
use Rattle.wesl_scope_meanings.specs.Scopes.{Key, bound, free, qualified, key_of}
use Rattle.wesl_link_split.specs.Split.{Scope, has_two_targets, under, asked_plain, is_unclear_plain}
use Rattle.wesl_link_tables.specs.Tables.{scope_of}
use Rattle.wesl_link_tables.specs.Uses.{use_name, said, texts, package_name, aims, through, meant, use_as, use_of}
use Rattle.wesl_link_tables.proofs.laws.law_of_uses.Goals as goal

said_name : (n x : Text) (b : Bool) (rs : List (Reference Path Text)) → use_name (said n x b rs) ≡ n
said_name n x true rs = refl
said_name n x false rs = refl

module _ (s : Scope Path Text) where
  meant_name : (here : Place) (n : Text) (k : Key) → use_name (meant s here n k) ≡ n
  meant_name here n (bound [] m) = said_name n n (is_unclear_plain texts s n here) (asked_plain texts s n here)
  meant_name here n (bound (b ∷ outer) m) = refl
  meant_name here n (free m) = said_name n n (is_unclear_plain texts s n here) (asked_plain texts s n here)
  meant_name here n (qualified p m) = said_name n (package_name p.origin) (has_two_targets texts (through s here p.origin)) (map (under texts s n here) (aims s.own (through s here p.origin) p))

  use_as_name : (here : Place) (r : Standing) (n : Text) (k : Key) → use_name (use_as s here r n k) ≡ n
  use_as_name here module_name n k = refl
  use_as_name here parameter n k = meant_name here n k
  use_as_name here (local_name e) n k = meant_name here n k
  use_as_name here (reference p) n k = meant_name here n k
  use_as_name here word n k = refl

  piece_names : (all os : List (Occurrence Text)) → map use_name (map (use_of s all) os) ≡ map (λ o. o.name) os
  piece_names all [] = refl
  piece_names all (o ∷ os) = ap (λ n. n ∷ map use_name (map (use_of s all) os)) (use_as_name (Name o.place) o.role o.name (key_of all o)) ∙ ap (λ ns. o.name ∷ ns) (piece_names all os)

  all_names : (all : List (Occurrence Text)) (ps : List (List (Occurrence Text))) → map (map use_name) (map (map (use_of s all)) ps) ≡ map (map (λ o. o.name)) ps
  all_names all [] = refl
  all_names all (p ∷ ps) = ap (λ ns. ns ∷ map (map use_name) (map (map (use_of s all)) ps)) (piece_names all p) ∙ ap (λ nss. map (λ o. o.name) p ∷ nss) (all_names all ps)

pub returns : goal.returns
returns c = λ own u label. all_names (scope_of own u) (occurrences u) (pieces u) ∙ pieces_are u label

use Rattle.std.proofs.Common.{◌≡◌, ◌∙◌, ap, Bool, ◌&&◌, List, [], ◌∷◌, map, refl, rules, tests, String, Global, string_bytes}
use Rattle.std.proofs.lemmas.Iterator.{YieldsList-from_slice}
use Rattle.std.proofs.lemmas.Iterator.Search.{all_from_yields_List}
use Rattle.std.specs.List.{list_all}
use Rattle.wesl_mangle_forms.specs.Escape.{is_plain}
use Rattle.wesl_mangle_forms.proofs.reversible.are_plain.Goals as goal

all-map : (ns : List (String Global)) → list_all (λ n. is_plain (string_bytes n)) ns ≡ list_all is_plain (map string_bytes ns)
all-map [] = refl
all-map (n ∷ ns) = ap (λ (b : Bool). is_plain (string_bytes n) && b) (all-map ns)

pub returns : goal.returns
returns c =
    let ns = c.args.names.now in
    all_from_yields_List (λ n. is_plain (string_bytes n)) _ _ c.all.result c.all.ensures.ran (YieldsList-from_slice ns (cc)) (λ x b q k. search (rules, tests)) ∙ all-map ns

use Rattle.std.proofs.Common.{◌≡◌, ◌∙◌, ◌&&◌, Bool, List, [], ◌∷◌, ap, eqb, refl, rules, tests, lit<}
use Rattle.std.proofs.lemmas.Iterator.Search.{all_from_yields_List}
use Rattle.std.proofs.lemmas.Iterator.Splits.{YieldsList-from_str_split}
use Rattle.std.specs.List.{list_all, slice_split}
use Rattle.wesl_tree_base.proofs.Pieces.{cut-split}
use Rattle.wesl_tree_names.specs.Path.{Text}
use Rattle.wesl_text_form.specs.Names.{is_free}
use Rattle.wesl_text_reading.specs.Leaves.{are_free}
use Rattle.wesl_text_read_imports.proofs.path.are_free.Goals as goal

all-free : (ts : List Text) → list_all is_free ts ≡ are_free ts
all-free [] = refl
all-free (t ∷ ts) = ap (λ (b : Bool). is_free t && b) (all-free ts)

pub returns : goal.returns
returns c =
    all_from_yields_List is_free _ _ _ c.all.ensures.ran (YieldsList-from_str_split 47 c.args.words.now (lit< tt) c.split.ensures.text c.split.ensures.has_more c.split.ensures.pattern) (λ x b q k. search (rules, tests))
    ∙ all-free (slice_split (λ b. eqb b 47) c.args.words.now)
    ∙ ap are_free (cut-split 47 c.args.words.now)

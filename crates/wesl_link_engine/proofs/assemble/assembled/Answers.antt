use Rattle.std.proofs.Common.{◌≡◌, false, List, ◌∷◌, ap, subst, ◌∙◌, map}
use Rattle.std.specs.Prelude.{string_bytes}
use Rattle.wesl_tree_syntax.specs.View.{texts_of}
use Rattle.wesl_tree.specs.Translation.{unit_view}
use Rattle.wesl_link_assembly.specs.Denotations.{free_name}
use Rattle.wesl_link_assembly.specs.Directives.{AreThinned, all_directives}
use Rattle.wesl_link_assembly.specs.Views.{Meaning}
use Rattle.wesl_link_engine.specs.GivenView.{given}
use Rattle.wesl_link_engine.specs.Keeping.{all_loaded}
use Rattle.wesl_link_engine.specs.Holding.{meanings, AreParts}
use Rattle.wesl_link_engine.specs.declared.assemble.Parts.{Parts}
use Rattle.wesl_link_engine.specs.declared.loaded.LoadedModule.{LoadedModule}
use Rattle.wesl_link_engine.proofs.Parted.{parts_none}
use Rattle.wesl_link_engine.proofs.Told.{if_ok}
use Rattle.wesl_link_engine.proofs.Whole.{all_named, assembled_is}
use Rattle.wesl_link_engine.proofs.assemble.assembled.Goals as goal

pub unit_of_parts-requires : goal.unit_of_parts-requires
unit_of_parts-requires c =
    let l = c.args.link.now in
    let found = c.in_ok-nodes.field-0 in
    let parts = c.copy_modules.new.parts in
    let texts = texts_of found.words in
    let words : List Meaning = map free_name texts in
    let thinned : AreThinned (all_directives (map (λ m. unit_view m.unit) (all_loaded l))) found.nodes texts =
    subst (λ (ms : List LoadedModule). AreThinned (all_directives (map (λ m. unit_view m.unit) (l.root ∷ ms))) found.nodes texts) c.deref.ensures.value c.in_ok-nodes.ensures.thinned in
    let start : Parts = record { declarations = c.new.result; denotations = c.in_ok-denotations.denotations; is_refused = false } in
    let said : meanings start ≡ words = c.in_ok-denotations.ensures.words ∙ ap (λ ws. map free_name (map string_bytes ws)) c.deref-2.ensures.value in
    let all : parts.is_refused ≡ false → AreParts l (all_loaded l) words parts = λ e. c.copy_modules.ensures e words (parts_none l words start c.new.ensures.items said) in
    record { one_each = λ e. all_named c.law_of_pieces.ensures l (given c.args.given.now) found.nodes texts parts thinned (all e) }

pub returns-clause-assembled : goal.returns-clause-assembled
returns-clause-assembled c =
    let l = c.args.link.now in
    let found = c.in_ok-nodes.field-0 in
    let parts = c.copy_modules.new.parts in
    let texts = texts_of found.words in
    let words : List Meaning = map free_name texts in
    let thinned : AreThinned (all_directives (map (λ m. unit_view m.unit) (all_loaded l))) found.nodes texts =
    subst (λ (ms : List LoadedModule). AreThinned (all_directives (map (λ m. unit_view m.unit) (l.root ∷ ms))) found.nodes texts) c.deref.ensures.value c.in_ok-nodes.ensures.thinned in
    let start : Parts = record { declarations = c.new.result; denotations = c.in_ok-denotations.denotations; is_refused = false } in
    let said : meanings start ≡ words = c.in_ok-denotations.ensures.words ∙ ap (λ ws. map free_name (map string_bytes ws)) c.deref-2.ensures.value in
    let all : parts.is_refused ≡ false → AreParts l (all_loaded l) words parts = λ e. c.copy_modules.ensures e words (parts_none l words start c.new.ensures.items said) in
    if_ok c.unit_of_parts.result (λ unit linked. assembled_is c.law_of_pieces.ensures l (given c.args.given.now) found.nodes texts parts thinned (all linked.0) c.law_of_meanings.ensures (unit_view unit) linked.1) c.unit_of_parts.ensures.linked

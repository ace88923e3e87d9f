-- Why something is held in a link, by paths and names.
use Rattle.std.specs.Prelude.{◌≡◌, Option, IfSome, Vec, List, [], ◌∷◌, Contains, map}
use Rattle.std.specs.declared.alloc.Global.{Global}
use Rattle.wesl_tree_names.specs.Path.{Text, Path, path_view}
use Rattle.wesl_tree_names.specs.declared.path.ModulePath.{ModulePath}
use Rattle.wesl_link_symbols.specs.declared.ids.PathId.{PathId}
use Rattle.wesl_tree_base.specs.declared.ids.NameId.{NameId}
use Rattle.wesl_link_reach.specs.Faults.{AreDistinct}
use Rattle.wesl_link_reasons.specs.declared.node.Node.{Node}
use Rattle.wesl_link_reasons.specs.declared.node.Node.TheVariants as node
use Rattle.wesl_link_reasons.specs.declared.found.Found.{Found}
use Rattle.wesl_link_reasons.specs.Found.{AreReasons}
use Rattle.wesl_link_reasons.specs.Reasons.{IsHeld, IsReason, task_from}
use Rattle.wesl_link_tables.specs.Numbering.{Numbering, NameAt, PathAt}
use Rattle.wesl_link_tables.specs.TextsView.{numbering_of_texts as numbering}
use Rattle.wesl_link_engine.specs.Keeping.{path_text, name_text, modules_in, task_in}
use Rattle.wesl_link_engine.specs.Resolved.{Resolved}
use Rattle.wesl_link_engine.specs.Worlds.{Module, tables, task_of}
use Rattle.wesl_link_engine.specs.declared.link.Link.{Link}
use Rattle.wesl_link_engine.specs.declared.steps.Step.{Step}
use Rattle.wesl_link_engine.specs.declared.steps.Step.TheVariants as step

-- ---- steps

-- what a step tells: a name that is kept, the module at a path, or the symbol of a name in it
abbrev pub step_view : Step → Node Path Text
step_view (step.KeptName n) = node.KeptName n.now
step_view (step.Module p) = node.Module (path_view p.now)
step_view (step.Item p n) = node.Item (record { path = path_view p.now; name = n.now })

-- what steps tell, in their order
abbrev pub steps_told : List Step → List (Node Path Text)
steps_told steps = map step_view steps

-- ---- what is held, and why

-- of the modules, the root's first: a symbol that is reached from it, or a module that is entered; of no modules nothing
abbrev pub IsHeldFrom : Resolved → List Module → Node Path Text → Type 0
IsHeldFrom r [] x = ⊥
IsHeldFrom r (root ∷ others) x = IsHeld (tables (root ∷ others)) (task_of root r.kept r.is_eager) x

-- it is held in the link
abbrev pub IsHeldIn : Resolved → Node Path Text → Type 0
IsHeldIn r x = IsHeldFrom r r.modules x

-- of the modules, the root's first: the chain is a reason of it in their link; of no modules none is
abbrev pub IsReasonFrom : Resolved → List Module → Node Path Text → List (Node Path Text) → Type 0
IsReasonFrom r [] x chain = ⊥
IsReasonFrom r (root ∷ others) x chain = IsReason (tables (root ∷ others)) (task_of root r.kept r.is_eager) x chain

-- the chain is a reason of it in the link: it begins at a kept name or at the root's module and ends at it, and each next one
-- is asked for by the one before
abbrev pub IsReasonIn : Resolved → Node Path Text → List (Node Path Text) → Type 0
IsReasonIn r x chain = IsReasonFrom r r.modules x chain

-- the answer, where there is one, is a reason of it
abbrev pub TellsReason : Resolved → Node Path Text → Option (Vec Step Global) → Type 0
TellsReason r x answer = IfSome answer (λ steps. IsReasonIn r x (steps_told steps.items))

-- no step of the answer is told twice
abbrev pub TellsOnce : Option (Vec Step Global) → Type 0
TellsOnce answer = IfSome answer (λ steps. AreDistinct (steps_told steps.items))

-- the symbol of a name in the module at a path
abbrev pub item_at : ModulePath → Text → Node Path Text
item_at p n = node.Item (record { path = path_view p; name = n })

-- the module at a path
abbrev pub module_node : ModulePath → Node Path Text
module_node p = node.Module (path_view p)

-- ---- in numbers

-- the paths and names of a node's numbers
abbrev pub told_node : Numbering → Node PathId NameId → Node Path Text
told_node nb (node.KeptName n) = node.KeptName (name_text nb n)
told_node nb (node.Module p) = node.Module (path_text nb p)
told_node nb (node.Item s) = node.Item (record { path = path_text nb s.path; name = name_text nb s.name })

-- the numbers of the node have texts, that of its path and that of its name, as far as it has them
abbrev pub HasTexts : Numbering → Node PathId NameId → Type 0
HasTexts nb (node.KeptName n) = (x : Text) × NameAt nb n x
HasTexts nb (node.Module p) = (q : Path) × PathAt nb p q
HasTexts nb (node.Item s) = ((q : Path) × PathAt nb s.path q) × ((x : Text) × NameAt nb s.name x)

-- the numbers of all these nodes have texts
abbrev pub HaveTexts : Numbering → List (Node PathId NameId) → Type 0
HaveTexts nb xs = (x : Node PathId NameId) → Contains xs x → HasTexts nb x

-- the node has the path and the name that are told
abbrev pub IsNodeOf : Numbering → Node Path Text → Node PathId NameId → Type 0
IsNodeOf nb y x = HasTexts nb x × (told_node nb x ≡ y)

-- the reasons are those of the link
abbrev pub AreReasonsIn : Link → List Found → Type 0
AreReasonsIn l fs = (root : PathId) × PathAt (numbering l.numbers) root (path_view l.root.path) × AreReasons l.linked.tables (task_from root l.kept.items l.is_eager) fs

-- it is held in the link, by the modules that the link keeps
abbrev pub HoldsIn : Link → Node Path Text → Type 0
HoldsIn l x = IsHeld (tables (modules_in l)) (task_in l) x

-- the chain is a reason of it in the link, by the modules that the link keeps
abbrev pub IsReasonOf : Link → Node Path Text → List (Node Path Text) → Type 0
IsReasonOf l x chain = IsReason (tables (modules_in l)) (task_in l) x chain

-- What a link is asked for, and whom it asks.
use Rattle.std.specs.Prelude.{ℕ, Bool, true, false, List, []}
use denote.Ref.{Bor}
use Rattle.wesl_tree_base.specs.Borrowed.{texts}
use Rattle.wesl_tree_names.specs.Path.{Text, Path, path_view}
use Rattle.wesl_tree_names.specs.declared.path.ModulePath.{ModulePath}
use Rattle.wesl_link_reach.specs.World.{Task}
use Rattle.wesl_resolve_base.specs.Resolver.{MeansTheSame}
use Rattle.wesl_resolve_base.specs.declared.resolver.Resolver.{Ghosts}
use Rattle.wesl_link_engine.specs.declared.request.LinkRequest.{LinkRequest}

-- what a link is asked for: the names that are kept of the root, or all that is declared, of no more modules than the limit
pub record Request : Type 0 where
  pub root : Path
  pub keep : List Text
  pub is_eager : Bool
  pub limit : ℕ

-- the request that a value of the code stands for
abbrev pub request_view : LinkRequest → Request
request_view q = record { root = path_view q.root.now; keep = texts q.keep.now; is_eager = q.is_eager; limit = q.max_modules }

-- the request of a lazy link: what these names of the root reach
abbrev pub lazily : ModulePath → List (Bor Text) → ℕ → Request
lazily root keep limit = record { root = path_view root; keep = texts keep; is_eager = false; limit = limit }

-- the request of an eager link: all that is declared
abbrev pub eagerly : ModulePath → ℕ → Request
eagerly root limit = record { root = path_view root; keep = []; is_eager = true; limit = limit }

-- the request of a link that is lazy or eager; of an eager one the names count for nothing
abbrev pub asking : ModulePath → List (Bor Text) → Bool → ℕ → Request
asking root keep is_eager limit = record { root = path_view root; keep = texts keep; is_eager = is_eager; limit = limit }

-- the names that are kept: none where all that is declared is asked for
abbrev pub kept_names : Bool → List Text → List Text
kept_names true keep = []
kept_names false keep = keep

-- the names of the root that a request keeps: none where it is eager
abbrev pub kept_of : Request → List Text
kept_of q = kept_names q.is_eager q.keep

-- what is linked: the names that are kept of the module at the path, or all that is declared
abbrev pub task_at : Path → List Text → Bool → Task Path Text
task_at path keep is_eager = record { root = path; kept = kept_names is_eager keep; is_eager = is_eager }

-- what a request asks to link
abbrev pub task_for : Request → Task Path Text
task_for q = task_at q.root q.keep q.is_eager

-- two resolvers give the same answers to the same questions
abbrev pub AnswersTheSame : {R : Type 0} → Ghosts R → R → R → Type 0
AnswersTheSame g old new = MeansTheSame g.hands g.refuses g.source g.lacks g.shown old new

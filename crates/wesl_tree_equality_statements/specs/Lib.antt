pub use Rattle.wesl_tree_equality.specs.Numbered

-- With as many steps as there are records, what is met is the record's path.
use Rattle.std.proofs.Common.{◌≡◌, ℕ, List, length, refl}
use Rattle.rules.specs.declared.Record.{Record}
use Rattle.rules.specs.Tree.{path_of, path, among, on_path, open_along, open_change, commit_along, commit_of_time}

module _ (records : List Record) where
  pub path_whole : (i : ℕ) → path_of records (length records) i ≡ path records i
  unfolding path
  path_whole i = refl

  pub among_whole : (a i : ℕ) → among a (path_of records (length records) i) ≡ on_path records a i
  unfolding on_path path
  among_whole a i = refl

  pub open_whole : (i : ℕ) → open_along records (path_of records (length records) i) ≡ open_change records i
  unfolding open_change path
  open_whole i = refl

  pub commit_whole : (time i : ℕ) → commit_along records time (path_of records (length records) i) ≡ commit_of_time records time i
  unfolding commit_of_time path
  commit_whole time i = refl

-- A commit: that what the log gains has a place, and what the struct shows afterwards.
use Prim.Native.Nat.{ℕ, ◌+◌, ◌≤◌, ◌<◌}
use native.Mathlib.Omega.{arith}
use mathlib.Core.Path.{◌≡◌, refl, sym, ap, ◌∙◌}
use mathlib.Core.Bool.{Bool, true, cond, not}
use mathlib.Core.List.{List, [], ◌∷◌, ◌++◌, map, reverse, append_assoc}
use lib.ListN.{length, take, drop, length-map, length-append, length-reverse, length-drop}
use lib.Dec.{leb}
use lib.Seq.{length-take-le, take-append_seam}
use Rattle.rules.specs.declared.Record.{Record}
use Rattle.rules.specs.declared.Refusal.TheVariants.{TableFull, OffBranch}
use Rattle.rules.specs.declared.Answer.TheVariants.{Accepted}
use Rattle.rules.specs.Tree.{number_of, path, on_path, last_commit, latest_commit}
use Rattle.rules.specs.State.{State, places, entries, is_table, full}
use Rattle.rules.specs.Clocks.{moved}
use Rattle.rules.specs.Proposals.{Result, refused_in, voted, added, adopted, before, gained, commit_for, committed}
use Rattle.rules.proofs.State.{Table, table_says}
use Rattle.rules.proofs.Paths.{rising}
use Rattle.records.specs.Used.{used}
use Rattle.moves.specs.Moves.{written}
use Rattle.moves.proofs.Gained.{gain_few}
use Rattle.moves.proofs.Shown.{written_between}
use Rattle.referee.specs.declared.Table as Struct
use Rattle.referee.specs.Rest.{committed_on}
use Rattle.referee.specs.View.{view, seen, outcome, placed, revoted, extended, regrouped}
use Rattle.referee.proofs.Views.{few, short, clocks_is}
use Rattle.referee.proofs.Structs.{view_is, seen_placed}

-- as many from the front as the first part has is the first part
take_front : {A : Type 0} (n : ℕ) (xs ys : List A) → length xs ≡ n → take n (xs ++ ys) ≡ xs
take_front n xs ys e = ap (λ (k : ℕ). take k (xs ++ ys)) (sym e) ∙ take-append_seam xs ys

-- a struct whose log was written up to a new end
pub extended_by : (t : Struct.Table) (xs after : List ℕ) (end : ℕ) → t.length + length xs ≤ length t.log → end ≡ t.length + length xs → after ≡ written t.log end xs
    → record { clocks = t.clocks; records = t.records; count = t.count; log = after; length = end } ≡ extended (reverse xs) t
extended_by t xs after end l e w =
    let in_log : after ≡ take t.length t.log ++ (reverse xs ++ drop (length (reverse xs)) (drop t.length t.log)) =
    w ∙ ap (λ (k : ℕ). written t.log k xs) e ∙ written_between xs t.log t.length l in
    let to : end ≡ t.length + length (reverse xs) = e ∙ ap (λ (k : ℕ). t.length + k) (sym (length-reverse xs)) in
    λ i. record { clocks = t.clocks; records = t.records; count = t.count; log = in_log i; length = to i }

module _ (t : Struct.Table) (table : is_table (view t) ≡ true) (whole : length t.records ≡ 256) (pages : length t.log ≡ 256)
    (target : ℕ) (there : target < length (view t).records)
    (on : on_path (view t).records (latest_commit (view t).records) target ≡ true) where
  abbrev rs : List Record
  rs = (view t).records

  is : view t ≡ record { clocks = t.clocks; records = take t.count t.records; log = take t.length t.log }
  is = view_is t (few t.clocks t.records t.count t.log t.length table) (short t.clocks t.records t.count t.log t.length table)

  says : Table (view t)
  says = table_says (view t) table

  count_is : length rs ≡ t.count
  count_is = ap (λ (s : State). length s.records) is ∙ length-take-le t.count t.records (let l = few t.clocks t.records t.count t.log t.length table in omega arith)

  -- the log's new length is at most the number of records
  pub gain_fits : t.length + length (gained rs target) ≤ 256
  gain_fits =
      omega (
        arith,
        ap length says.logged,
        ap (λ (s : State). length s.log) is ∙ length-take-le t.length t.log (let l = short t.clocks t.records t.count t.log t.length table in omega arith),
        gain_few rs (rising rs says.shaped) target there on,
        count_is,
        few t.clocks t.records t.count t.log t.length table,
      )

  module _ (time new : ℕ) (voters : ℕ) (r : Record) where
    -- the struct with the target's children under the new record, the log longer and the clocks moved
    abbrev pub moved_on : Struct.Table
    moved_on = revoted voters time (regrouped target new (extended (gained rs target) t))

    abbrev wanted : State
    wanted = record { clocks = moved voters time t.clocks; records = map (adopted target new) rs; log = (view t).log ++ gained rs target }

    in_use : used t.count ≡ t.count
    unfolding used
    in_use = let l = few t.clocks t.records t.count t.log t.length table in omega arith

    front : length (map (adopted target new) (take (used t.count) t.records)) ≡ t.count
    front =
        length-map (take (used t.count) t.records) (adopted target new)
        ∙ length-take-le (used t.count) t.records (omega (arith, in_use, few t.clocks t.records t.count t.log t.length table))
        ∙ in_use

    all_places : length moved_on.records ≡ 256
    all_places =
        length-append (map (adopted target new) (take (used t.count) t.records)) (drop (used t.count) t.records)
        ∙ omega (arith, front, length-drop (used t.count) t.records, in_use, few t.clocks t.records t.count t.log t.length table)

    entered : length (take t.length t.log) ≡ t.length
    entered = length-take-le t.length t.log (let l = short t.clocks t.records t.count t.log t.length table in omega arith)

    shows : view moved_on ≡ wanted
    shows =
        let in_records : take t.count moved_on.records ≡ map (adopted target new) rs =
        take_front t.count (map (adopted target new) (take (used t.count) t.records)) (drop (used t.count) t.records) front
        ∙ ap (λ (k : ℕ). map (adopted target new) (take k t.records)) in_use
        ∙ ap (λ (s : State). map (adopted target new) s.records) (sym is) in
        let in_log : take moved_on.length moved_on.log ≡ (view t).log ++ gained rs target =
        ap (take moved_on.length) (sym (append_assoc (take t.length t.log) (gained rs target) _))
        ∙ take_front moved_on.length (take t.length t.log ++ gained rs target) _ (length-append (take t.length t.log) (gained rs target) ∙ ap (λ (k : ℕ). k + length (gained rs target)) entered)
        ∙ ap (λ (s : State). s.log ++ gained rs target) (sym is) in
        view_is moved_on (few t.clocks t.records t.count t.log t.length table) gain_fits
        ∙ (λ i. record { clocks = moved voters time t.clocks; records = in_records i; log = in_log i })

    as_full : full (map (adopted target new) rs) ≡ full rs
    unfolding full
    as_full = ap (leb places) (length-map rs (adopted target new))

    pub moved_seen : seen (outcome t (placed r moved_on)) ≡ cond (full (view t).records) (refused_in (view t) TableFull) (added wanted r)
    moved_seen =
        seen_placed t moved_on r (few t.clocks t.records t.count t.log t.length table) gain_fits all_places
        ∙ ap (λ (s : State). cond (full s.records) (refused_in (view t) TableFull) (added s r)) shows
        ∙ ap (λ (b : Bool). cond b (refused_in (view t) TableFull) (added wanted r)) as_full

-- The same, in the words of the code: its records, and the latest commit that it found among them.
module _ (t : Struct.Table) (table : is_table (view t) ≡ true) (whole : length t.records ≡ 256) (pages : length t.log ≡ 256)
    (records : List Record) (these : records ≡ (view t).records) (target last : ℕ) (there : target < length records)
    (latest : last ≡ number_of (last_commit records)) (on : on_path records last target ≡ true) where
  -- the entries gained, the newest first
  abbrev gain : List ℕ
  gain = entries records (before last (path records target))

  is_last : last ≡ latest_commit (view t).records
  unfolding latest_commit
  is_last = latest ∙ ap (λ (rs : List Record). number_of (last_commit rs)) these

  there' : target < length (view t).records
  there' = rw these at there

  on' : on_path (view t).records (latest_commit (view t).records) target ≡ true
  on' = rw (these, is_last) at on

  gain_is : reverse gain ≡ gained (view t).records target
  unfolding gained
  gain_is = rw (these, is_last) refl

  pub fits : t.length + length gain ≤ 256
  fits = omega (arith, gain_fits t table whole pages target there' on', ap length gain_is, length-reverse gain)

  pub seen_commit : (r : Record) (caller voters n : ℕ) → n ≡ length records
      → seen (outcome t (placed (commit_for target r caller voters) (revoted voters r.time (regrouped target n (extended (reverse gain) t)))))
      ≡ committed_on (view t) r caller voters target
  unfolding committed_on
  seen_commit r caller voters n as_many =
      ap (λ (xs : List ℕ). seen (outcome t (placed (commit_for target r caller voters) (revoted voters r.time (regrouped target n (extended xs t)))))) gain_is
      ∙ moved_seen t table whole pages target there' on' r.time n voters (commit_for target r caller voters)
      ∙ ap (λ (done : Result). cond (full s.records) (refused_in s TableFull) done) made
      ∙ sym (ap (λ (b : Bool). cond (not b) (refused_in s OffBranch) (cond (full s.records) (refused_in s TableFull) (committed (voted s voters r.time) target r caller voters))) on')
    where
      s : State
      s = view t

      number_is : n ≡ length s.records
      number_is = as_many ∙ ap length these

      clocks_are : t.clocks ≡ s.clocks
      clocks_are = sym (clocks_is t.clocks t.records t.count t.log t.length)

      size_is : length (map (adopted target n) s.records) ≡ length s.records
      size_is = length-map s.records (adopted target n)

      made : added
          (record { clocks = moved voters r.time t.clocks; records = map (adopted target n) s.records; log = s.log ++ gained s.records target })
          (commit_for target r caller voters)
          ≡ committed (voted s voters r.time) target r caller voters
      made =
          λ i. record {
            state = record {
              clocks = moved voters r.time (clocks_are i);
              records = map (adopted target (number_is i)) s.records ++ (commit_for target r caller voters ∷ []);
              log = s.log ++ gained s.records target;
            };
            answer = Accepted (size_is i);
          }

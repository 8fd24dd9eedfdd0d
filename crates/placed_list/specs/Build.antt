-- What the build of a list answers and leaves, by the verdict of its checks 3 to 9, and 10. Assumes nothing.
use Rattle.std.specs.Prelude.{◌≡◌, cond, List, ℕ, leb, length, replicate, ℤ, pos}
use Rattle.backoff.specs.Refusal.{no_room}
use Rattle.backoff.specs.Run.{written}
use Rattle.backoff.specs.Refusal.{Verdict}
use Rattle.backoff.specs.Refusal.{Accepted, Refused}
use Rattle.rows.specs.Table.{rows_of}
use Rattle.child_slots.specs.Children.{free_check}
use Rattle.placing.specs.Placing.{slots}
use Rattle.list_trie.specs.ListTrie.{placed_list, row_slots}

-- what build answers, and what the lent slices hold when it returns
pub record Built : Type 0 where
  pub answer : Verdict
  pub base : List ℤ
  pub check : List ℤ
  pub work : List ℕ

module _ (table base check : List ℤ) (work : List ℕ) where
  -- 1 to 9: "untouched"
  unfoldable pub untouched : Verdict → Built
  untouched v = record { answer = v; base = base; check = check; work = work }

  -- 10: "all slots free, work items of the rows 0"
  unfoldable pub emptied : Built
  emptied =
      record {
        answer = Refused no_room 0;
        base = replicate (length base) (pos 0);
        check = replicate (length check) free_check;
        work = written (replicate (rows_of table) 0) work;
      }

  -- accepted: the placing rule's arrays, and "item i of the lent work slice .. is the slot of row i's node. Items past the rows are untouched."
  unfoldable pub filled : Built
  filled =
      record {
        answer = Accepted;
        base = slots (length base) (placed_list table).base;
        check = slots (length check) (placed_list table).check;
        work = written (row_slots table) work;
      }

  -- "the placing rule uses a slot ≥ N" or not
  abbrev pub checked_build : Verdict → Built
  checked_build (Refused n k) = untouched (Refused n k)
  checked_build Accepted = cond (leb (placed_list table).top (length base)) filled emptied

-- the slices and the answer are those of the outcome
pub record IsBuilt (outcome : Built) (answer : Verdict) (base check : List ℤ) (work : List ℕ) : Type 0 where
  pub answer-is : answer ≡ outcome.answer
  pub base-is : base ≡ outcome.base
  pub check-is : check ≡ outcome.check
  pub work-is : work ≡ outcome.work

-- The rows are placed where the root is; where it has no room, the list has none.
use Rattle.std.proofs.lemmas.Result.{err_from_is_err_and}
use Rattle.list_trie.proofs.NodeByNode.{over_room}
use Rattle.list_trie.proofs.place_nodes.Goals as goal

pub returns-in_err-top : goal.returns-in_err-top
returns-in_err-top c =
    let p = err_from_is_err_and c.from_residual.result c.from_residual.ensures.1 in
    let e = c.in_err-top.ensures in
    rw (p.1, p.2) (e.0, over_room c.args.list.table.now _ 1 e.1)

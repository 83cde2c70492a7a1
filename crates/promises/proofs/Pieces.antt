-- Promise: input in pieces of any size prints what the whole input prints. The proof is that of crate session.
use Rattle.session.proofs.Whole as whole
use Rattle.promises.specs.Promises.{InPieces}

pub in_pieces_lem : InPieces
in_pieces_lem = whole.in_pieces_lem

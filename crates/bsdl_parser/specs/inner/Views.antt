-- Converts a draft, which is the parser's record of the items read so far, to the grammar's record `Items`.
use Rattle.bsdl_parser.specs.declared.draft.Draft.{Draft}
use Rattle.bsdl_parser.specs.Bsdl.{Items}

abbrev pub items_of : Draft → Items
items_of draft = record {
  has_generic = draft.has_generic;
  fallback = draft.fallback;
  has_port = draft.has_port;
  ports = draft.ports.items;
  uses = draft.uses.items;
  constants = draft.constants.items;
  attributes = draft.attributes.items;
}

pub mod ChannelFields
